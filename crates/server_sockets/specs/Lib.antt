pub mod Answers
pub mod Binding
pub mod Fresh
pub mod Peers
