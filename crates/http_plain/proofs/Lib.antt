mod BodySteps
mod ChunkSteps
mod PlainSteps
mod TokenSteps
mod TurnSteps
mod WireSteps
