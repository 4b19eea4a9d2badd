pub mod Made
pub mod Plainly
pub mod Replays
pub mod Summed
pub mod Summing
pub mod Telling
