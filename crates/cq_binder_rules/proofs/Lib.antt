pub mod Clean
pub mod Sourceless
