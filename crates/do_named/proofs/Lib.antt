pub mod NodeNames
pub mod StackTurn
