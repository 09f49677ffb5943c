pub mod Atoms
pub mod Packets
pub mod Taken
pub mod Nodes
pub mod Kept
pub mod Effects
pub mod Inputs
