pub mod Atoms
pub mod Kept
