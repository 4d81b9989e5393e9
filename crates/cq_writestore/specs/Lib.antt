pub mod Spots
pub mod Writes
