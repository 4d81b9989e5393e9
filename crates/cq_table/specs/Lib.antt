pub mod Table
pub mod Found
pub mod Placing
pub mod Reached
pub mod Changes
pub mod Checks
pub mod Whole
