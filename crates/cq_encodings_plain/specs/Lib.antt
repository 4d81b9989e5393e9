pub mod Kind
pub mod Nulls
pub mod PackedNumbers
pub mod Parts
pub mod Plain
