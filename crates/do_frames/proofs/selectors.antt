pub mod SelectorBytes
pub mod SelectorExact
pub mod SelectorSteps
