pub mod Sendable
pub mod SendableStates
pub mod SendableActs
pub mod Numbers
pub mod Spelled
pub mod SendableCodes
