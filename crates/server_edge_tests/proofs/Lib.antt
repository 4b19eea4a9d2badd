pub mod LineSteps
pub mod CarrySteps
