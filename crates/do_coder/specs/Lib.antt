pub mod Recent
pub mod NameLog
pub mod Names
pub mod Parts
pub mod Packets
