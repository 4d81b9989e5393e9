pub mod Arguments
pub mod Exact
pub mod Groups
pub mod Lead
pub mod Shown
