pub mod Possible
pub mod Done
pub mod SmallEffects
pub mod Takes
