pub mod Fault
pub mod Limit
pub mod Line
