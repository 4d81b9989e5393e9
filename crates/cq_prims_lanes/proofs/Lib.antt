pub mod Places
pub mod Lanes
pub mod OffsetLanes
pub mod OffsetTests
