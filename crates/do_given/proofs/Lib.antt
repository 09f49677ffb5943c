pub mod FilesTold
pub mod Stopping
pub mod GivenWorld
pub mod BothGiven
pub mod SeatGiven
