pub mod FittingOn
pub mod Records
