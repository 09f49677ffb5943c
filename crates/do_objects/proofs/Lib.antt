pub mod Finding
mod Kept
mod Known
pub mod Whole
mod MovesKept
pub mod Steps
pub mod Sound
pub mod Able
