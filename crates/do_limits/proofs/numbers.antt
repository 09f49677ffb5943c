pub mod MovesRise
pub mod Reached
pub mod Few
