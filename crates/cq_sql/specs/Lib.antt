pub mod Parts
pub mod Rows
pub mod Queries
pub mod Grammar
pub mod Parses
