pub mod ListenerSteps
