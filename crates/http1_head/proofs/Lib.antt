pub mod ScanSteps
pub mod PassingSteps
pub mod HeadSteps
pub mod FramingSteps
pub mod NextSteps
pub mod FieldSteps
pub mod OptionSteps
