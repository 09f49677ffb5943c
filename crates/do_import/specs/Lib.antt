pub mod Held
pub mod Lent
pub mod Asked
pub mod ByObject
pub mod Imported
