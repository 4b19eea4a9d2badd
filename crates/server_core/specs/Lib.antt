pub mod Core
pub mod Inside
pub mod InsideTurns
pub mod Ledger
pub mod Numbers
pub mod Runs
pub mod Turns
