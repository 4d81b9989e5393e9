pub mod Lines
pub mod Locals
