pub mod Checks
pub mod Changes
pub mod Exchanged
pub mod Telling
pub mod Written
pub mod Setting
pub mod Updates
