pub mod Take
pub mod Step
pub mod Blocks
