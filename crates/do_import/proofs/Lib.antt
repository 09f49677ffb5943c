pub mod AskRows
mod Rooms
mod Threads
mod KeptClasses
mod LendsOff
mod NextRow
pub mod RowCounts
pub mod ObjectCounts
pub mod AskCounts
