pub mod Places
pub mod Rows
pub mod Tree
pub mod TreeFalls
