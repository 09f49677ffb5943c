pub mod Form
pub mod Reading
pub mod Starts
pub mod Plan
