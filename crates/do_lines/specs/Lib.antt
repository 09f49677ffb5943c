pub mod Shown
pub mod Lines
pub mod Check
pub mod Block
pub mod Transcript
