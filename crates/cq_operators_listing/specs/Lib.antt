pub mod ByNumbers
pub mod InOrder
pub mod Stored
pub mod Front
pub mod Places
pub mod Ranks
pub mod Ranked
pub mod Merging
