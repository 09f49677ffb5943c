mod Light
pub mod MayName
