pub mod Weights
pub mod ObjectsOfLists
pub mod WrittenSoFar
pub mod FileSearch
