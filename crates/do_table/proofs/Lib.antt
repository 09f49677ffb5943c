pub mod AddedEntries
pub mod ReplacedEntries
