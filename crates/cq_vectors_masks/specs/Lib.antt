pub mod Plane
pub mod TruthMask
pub mod Walk
pub mod Selection
