pub mod PartsExact
pub mod MergedExact
pub mod SlotsExact
pub mod NamedParts
pub mod BoardLaws
