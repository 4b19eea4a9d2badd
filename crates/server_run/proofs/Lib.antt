pub mod Fails
pub mod Standing
pub mod Steps
