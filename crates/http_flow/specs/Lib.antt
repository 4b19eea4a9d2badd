pub mod Upgrading
pub mod Readying
pub mod Creating
pub mod Making
pub mod Handling
