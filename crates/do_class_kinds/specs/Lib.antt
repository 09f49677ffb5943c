pub mod Kinds
pub mod Methods
pub mod Native
