pub mod Class
pub mod Index
pub mod Table
