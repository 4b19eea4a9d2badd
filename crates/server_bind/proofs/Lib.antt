pub mod Limiting
pub mod Stocks
