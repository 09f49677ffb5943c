pub mod Names
pub mod Ordered
pub mod Pieces
pub mod Plain
pub mod Reading
pub mod Streamed
pub mod Waits
