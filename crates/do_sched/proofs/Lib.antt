pub mod ValuesExact
pub mod ValuesLoop
pub mod LineExact
pub mod WholeLines
pub mod LinesSoFar
pub mod LineWithoutFeed
pub mod AnswerUnique
pub mod Upgraded
