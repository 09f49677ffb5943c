pub mod MovesAccount
pub mod QuietAccounts
pub mod EffectAccounts
pub mod ReturnsSent
pub mod NamesSent
pub mod ReturnsCounted
pub mod NamesCounted
pub mod RulesAccount
