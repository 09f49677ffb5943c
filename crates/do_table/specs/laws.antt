pub mod TableLaws
pub mod Entered
