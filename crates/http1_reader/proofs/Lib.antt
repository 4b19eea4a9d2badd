pub mod FeedSteps
pub mod ChunkLineSteps
pub mod PieceSteps
pub mod DecodeSteps
pub mod ReaderSteps
