pub mod Links
pub mod Moves
pub mod Sound
pub mod Facts
pub mod LinksAreKept
pub mod Lasting
