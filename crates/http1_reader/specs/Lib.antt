pub mod Pieces
pub mod Decoding
pub mod Readers
