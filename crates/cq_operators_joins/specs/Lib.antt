pub mod Added
pub mod Collected
pub mod Linked
pub mod Listed
pub mod Meeting
pub mod Pairs
pub mod Shown
pub mod Taking
