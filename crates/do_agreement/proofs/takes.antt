pub mod TakesAlike
pub mod Taking
pub mod TakeTallies
pub mod MachineTakes
pub mod TakeEvents
pub mod TakenFrame
pub mod TakeSteps
