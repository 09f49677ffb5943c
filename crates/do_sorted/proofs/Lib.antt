pub mod FewerRows
pub mod FirstRow
pub mod Retained
pub mod RowOrGap
pub mod RowsAsMap
pub mod Sides
pub mod SidesSorted
pub mod SomeRows
