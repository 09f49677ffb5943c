pub mod Coming
pub mod Nodes
pub mod Plans
