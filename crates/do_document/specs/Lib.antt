pub mod Document
pub mod Paths
pub mod Lists
pub mod Checks
pub mod Classes
pub mod ClassFaults
pub mod Sound
pub mod Finding
