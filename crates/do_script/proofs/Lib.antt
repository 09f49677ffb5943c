pub mod FirstWord
pub mod LabelsSoFar
pub mod LinesRead
pub mod Texts
pub mod FirstFault
