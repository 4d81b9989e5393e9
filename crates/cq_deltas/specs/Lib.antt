pub mod Additions
pub mod Extremes
pub mod Kept
pub mod Keyed
pub mod Laws
pub mod Placed
pub mod Shown
