pub mod Handlers
pub mod Expecting
pub mod Echoing
