pub mod Value
pub mod Version
pub mod Spelling
pub mod Good
pub mod Schedule
pub mod Answers
pub mod Reading
