pub mod Generator
pub mod Serving
