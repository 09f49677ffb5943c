pub mod Gives
pub mod Types
pub mod Offsets
pub mod Outermost
pub mod Ending
pub mod Signatures
