pub mod Acts
pub mod Checked
pub mod laws
