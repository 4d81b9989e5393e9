pub mod Live
pub mod Rows
pub mod WholeNumbers
