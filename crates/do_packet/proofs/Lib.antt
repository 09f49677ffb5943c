mod Prefixes
mod Rounds
mod Copying
mod Once
mod Named
pub mod Values
mod Walks
mod Reaching
mod Following
mod Places
mod Covers
mod Capped
mod Classes
pub mod Packed
pub mod Meanings
mod RoundTrip
pub mod Keeping
