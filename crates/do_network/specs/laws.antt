pub mod Sites
pub mod Streams
