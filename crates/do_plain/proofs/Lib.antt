pub mod Feeds
pub mod Lines
pub mod Selectors
pub mod Effects
pub mod Takes
pub mod States
pub mod Texts
pub mod Worlds
