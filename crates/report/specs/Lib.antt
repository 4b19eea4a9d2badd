pub mod Peers
pub mod Report
pub mod Summary
pub mod Told
