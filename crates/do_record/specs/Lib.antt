pub mod Value
pub mod Shown
pub mod Line
pub mod Recorded
pub mod Good
pub mod GoodShown
pub mod Spelling
pub mod Grammar
