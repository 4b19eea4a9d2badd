pub mod Bound
pub mod Counting
pub mod Ending
pub mod Hearing
