pub mod Replaying
pub mod Reported
pub mod Running
pub mod Summary
