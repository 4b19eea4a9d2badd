pub mod Listening
pub mod Sites
