pub mod Puts
pub mod Slots
