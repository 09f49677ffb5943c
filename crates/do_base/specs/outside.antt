pub mod Bytes
pub mod Causes
pub mod Files
pub mod InMemory
