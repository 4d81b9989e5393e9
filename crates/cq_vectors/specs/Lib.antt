pub mod Form
pub mod Gathered
pub mod Batch
