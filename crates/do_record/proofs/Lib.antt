pub mod values
pub mod lines
pub mod records
