pub mod SetSteps
pub mod ValueSteps
pub mod TokenSteps
pub mod UriSteps
