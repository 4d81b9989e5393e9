pub mod Numbered
pub mod OneGroup
pub mod Putting
