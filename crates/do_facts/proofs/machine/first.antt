pub mod Takes
pub mod Steps
pub mod Lines
