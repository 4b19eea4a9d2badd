pub mod Limiting
pub mod Limits
pub mod Stock
