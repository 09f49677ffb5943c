pub mod Opening
pub mod Walk
pub mod Lines
pub mod Numbers
pub mod Few
