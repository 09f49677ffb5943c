pub mod OfBytes
pub mod Read
pub mod Written
