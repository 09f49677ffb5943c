pub mod Verdicts
pub mod ActRules
pub mod Invocations
pub mod Judged
