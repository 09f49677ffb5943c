pub mod formers
pub mod values
pub mod names
pub mod lists
pub mod outside
