pub mod Borrowed
pub mod Reserved
