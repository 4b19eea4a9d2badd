pub mod Lines
pub mod Placing
pub mod Rising
pub mod Sorting
pub mod Summing
