pub mod Reached
pub mod OwnClass
pub mod CanAct
pub mod Writes
