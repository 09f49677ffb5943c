pub mod selectors
pub mod payloads
pub mod streams
