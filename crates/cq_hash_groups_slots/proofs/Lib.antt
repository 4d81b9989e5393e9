pub mod Known
pub mod OneGroup
pub mod Putting
