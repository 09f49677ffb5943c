pub mod Rules
pub mod Acts
pub mod Sent
pub mod laws
