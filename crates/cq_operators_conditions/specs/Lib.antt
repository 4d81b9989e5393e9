pub mod Kept
pub mod Lent
pub mod Passing
pub mod Skipping
