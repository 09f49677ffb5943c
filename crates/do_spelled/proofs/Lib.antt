pub mod Parts
pub mod Packets
