pub mod Seen
pub mod Lanes
pub mod Hosts
pub mod Net
pub mod OneMachine
pub mod Turns
