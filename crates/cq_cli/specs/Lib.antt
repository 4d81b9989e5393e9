pub mod Writing
pub mod Sinks
pub mod Printing
pub mod Running
