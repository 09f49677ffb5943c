pub mod Waiting
pub mod Named
pub mod Lost
