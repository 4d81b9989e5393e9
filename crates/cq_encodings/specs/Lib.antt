pub mod AnyEncoded
pub mod Dict
pub mod Runs
pub mod Texts
