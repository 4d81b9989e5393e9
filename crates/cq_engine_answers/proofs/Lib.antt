pub mod Results
pub mod Backed
pub mod Readings
pub mod Lents
pub mod Joined
pub mod Exactly
pub mod AtHand
