pub mod Methods
pub mod Places
pub mod Tables
