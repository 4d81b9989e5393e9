pub mod Sources
pub mod Stored
