pub mod LastOne
pub mod More
pub mod Standing
