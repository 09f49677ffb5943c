pub mod Follows
pub mod Calls
pub mod Entries
pub mod Version1
pub mod first
