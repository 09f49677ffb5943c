pub mod SlotsExact
pub mod CallLaws
pub mod Provider
pub mod NamedServices
pub mod ServiceLaws
