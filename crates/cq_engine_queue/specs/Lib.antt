pub mod Queued
pub mod Taking
pub mod History
pub mod Counts
pub mod Goal
pub mod Shown
