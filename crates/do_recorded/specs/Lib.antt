pub mod Inputs
pub mod Chain
