pub mod Folds
pub mod PolicySteps
pub mod Calls
pub mod CopySteps
pub mod Ready
