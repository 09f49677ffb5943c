mod Answers
mod rows
pub mod UsesMove
mod UsesExchanged
mod References
pub mod ObjectsOnce
pub mod UsesKept
