pub mod NumbersCompared
pub mod Inserted
pub mod RisingRows
pub mod CallsKept
pub mod CallsAnswered
pub mod RowsFiltered
