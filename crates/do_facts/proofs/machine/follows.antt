pub mod Follows
pub mod Steady
pub mod SteadyRuns
pub mod SteadyTakes
pub mod Moves
pub mod States
pub mod Steps
pub mod Every
