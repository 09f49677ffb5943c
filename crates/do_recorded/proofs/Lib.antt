pub mod Heard
pub mod Turns
pub mod Served
pub mod Read
pub mod Answer
