pub mod Columns
pub mod Flat
pub mod LentRow
pub mod RowList
