pub mod Numbers
pub mod Received
