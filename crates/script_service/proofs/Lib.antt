pub mod Policing
pub mod Creating
pub mod Making
pub mod Crossing
