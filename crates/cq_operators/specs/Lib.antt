pub mod Exec
pub mod Selected
pub mod Showing
pub mod Inputs
pub mod Batches
pub mod Opening
