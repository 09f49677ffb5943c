pub mod FaultPlace
pub mod AnswerExact
pub mod RestExact
