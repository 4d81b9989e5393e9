pub mod Binding
pub mod Columns
pub mod Constants
pub mod Update
pub mod Laws
pub mod Sourced
