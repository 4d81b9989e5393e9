pub mod Delta
pub mod Kept
pub mod Query
pub mod Shown
