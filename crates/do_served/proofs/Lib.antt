pub mod Comings
pub mod Refused
