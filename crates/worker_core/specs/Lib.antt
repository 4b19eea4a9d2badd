pub mod Statuses
pub mod WorkerCore
pub mod WorkerRuns
