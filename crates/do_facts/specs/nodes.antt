pub mod Atoms
pub mod Moves
pub mod After
pub mod Cause
pub mod Judged
pub mod May
pub mod View
