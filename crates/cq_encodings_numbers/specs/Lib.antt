pub mod Bounds
pub mod Deltas
pub mod Ends
pub mod Packed
pub mod Steps
