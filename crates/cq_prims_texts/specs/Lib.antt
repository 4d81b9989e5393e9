pub mod Asked
pub mod Bytes
pub mod TextSide
pub mod Kinds
pub mod Pairs
pub mod NoText
pub mod Fits
pub mod Named
