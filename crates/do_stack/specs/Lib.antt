pub mod Waiting
pub mod Late
pub mod LateCalls
pub mod Answered
pub mod Stacked
pub mod Uses
pub mod Exchange
pub mod Places
