pub mod FlagSteps
pub mod ScriptSteps
pub mod Waiting
pub mod Owing
