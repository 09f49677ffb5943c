pub mod Keeping
pub mod TakesKeep
pub mod SitesKeep
pub mod Closing
pub mod Reached
