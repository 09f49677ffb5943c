pub mod RuleFound
pub mod FirstLocals
pub mod GuardGood
pub mod CheckLaws
