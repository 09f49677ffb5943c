pub mod Forms
pub mod Help
