pub mod IsStep
pub mod Queues
pub mod Held
pub mod GivenUp
