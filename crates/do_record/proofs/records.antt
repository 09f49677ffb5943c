pub mod FirstLines
pub mod Showing
pub mod Blocks
pub mod RecordsTold
pub mod LinesGoOn
pub mod RecordsGiven
pub mod GoodRecords
