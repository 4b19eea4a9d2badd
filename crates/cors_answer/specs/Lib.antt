pub mod Asking
pub mod Faults
pub mod Verdicts
pub mod Meaning
pub mod Shown
pub mod Waiting
pub mod Transforms
