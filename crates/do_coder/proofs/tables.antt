pub mod TableLaws
pub mod TakenPairs
pub mod FreeClass
pub mod IndexLaws
pub mod NameLogLaws
