pub mod Columns
pub mod Marked
pub mod Pieces
pub mod Rows
