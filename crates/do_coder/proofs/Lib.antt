pub mod tables
pub mod names
pub mod values
pub mod packets
