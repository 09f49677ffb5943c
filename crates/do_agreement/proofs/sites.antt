pub mod HeldLists
pub mod HeldKept
pub mod EntriesCounted
pub mod ReaderStays
pub mod RuleEffects
