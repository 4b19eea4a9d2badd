pub mod Jobs
pub mod Leaving
pub mod Promise
pub mod Working
