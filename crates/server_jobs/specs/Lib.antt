pub mod Jobs
pub mod Parcels
pub mod Cards
pub mod Joins
pub mod Returning
