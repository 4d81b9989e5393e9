pub mod Columns
pub mod Cutting
pub mod InTurn
pub mod Lasts
