pub mod Finding
pub mod Seen
pub mod Growing
pub mod InOrder
pub mod InRow
pub mod ListSteps
mod Texts
mod KindSteps
mod PartSteps
mod EntrySteps
mod ClassSteps
pub mod Answering
pub mod Loops
