pub mod Named
pub mod Text
