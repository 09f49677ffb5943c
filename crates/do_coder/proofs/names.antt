pub mod NewName
pub mod NamesExact
