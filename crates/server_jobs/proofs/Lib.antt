pub mod JoinSteps
pub mod ReturnSteps
