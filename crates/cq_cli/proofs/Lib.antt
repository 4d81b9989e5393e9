pub mod Writes
pub mod Serving
pub mod Counting
pub mod Runs
