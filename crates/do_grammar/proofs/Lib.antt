pub mod reads
pub mod loops
pub mod faults
pub mod texts
