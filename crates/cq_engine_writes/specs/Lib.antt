pub mod Changing
pub mod Updates
pub mod Writing
