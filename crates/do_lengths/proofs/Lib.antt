mod Numbers
mod Parts
mod Copies
pub mod Names
mod Selectors
pub mod Frames
