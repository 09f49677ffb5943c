pub mod Exports
pub mod Acts
pub mod Takes
pub mod Hands
