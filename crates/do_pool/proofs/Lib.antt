pub mod Chains
pub mod EmptyQueues
pub mod PostLast
pub mod Regions
pub mod TakeFirst
