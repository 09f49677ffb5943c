pub mod Blocks
pub mod Inserting
pub mod Bools
pub mod Having
pub mod Keeping
pub mod FirstPlace
pub mod PutInOrder
pub mod MappedElements
