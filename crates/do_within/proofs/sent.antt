pub mod Sendings
pub mod Amounts
pub mod Peers
pub mod Effects
pub mod Moves
