pub mod May
pub mod Samples
