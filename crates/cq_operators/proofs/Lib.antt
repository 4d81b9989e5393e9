pub mod Below
pub mod Between
pub mod Collected
pub mod Linking
pub mod Opened
pub mod Selecting
pub mod Worked
