pub mod PartFacts
pub mod PartsExact
pub mod Items
pub mod Slots
