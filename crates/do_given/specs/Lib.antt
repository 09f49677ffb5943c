pub mod Status
pub mod Files
pub mod Reading
pub mod Serving
pub mod Parts
