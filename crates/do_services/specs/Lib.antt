pub mod Core
pub mod Calls
pub mod History
pub mod Meaning
pub mod Acts
pub mod laws
