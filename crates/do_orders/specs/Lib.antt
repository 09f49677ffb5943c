pub mod Moves
pub mod Inputs
