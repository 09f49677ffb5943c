pub mod Calls
pub mod Children
