pub mod Exchange
pub mod Runs
pub mod Files
