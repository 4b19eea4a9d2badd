pub mod Ways
pub mod Shorter
pub mod Answering
pub mod GoingSteps
pub mod Written
pub mod Handing
pub mod Dispatches
