pub mod WorkerCoreSteps
pub mod WorkerCoreRuns
