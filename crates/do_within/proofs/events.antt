pub mod Within
pub mod ActEvents
pub mod TakeEvents
pub mod LossEvents
