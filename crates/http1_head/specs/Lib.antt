pub mod Asking
pub mod Framings
pub mod Passing
pub mod Steps
