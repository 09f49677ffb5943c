pub mod IsTold
pub mod SlotsExact
