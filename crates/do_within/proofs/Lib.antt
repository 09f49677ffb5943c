pub mod sent
pub mod sites
pub mod events
pub mod schedules
