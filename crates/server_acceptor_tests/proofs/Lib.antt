pub mod Links
pub mod OneRing
