pub mod Echo
pub mod HandedOn
pub mod Statuses
