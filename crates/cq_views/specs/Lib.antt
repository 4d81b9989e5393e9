pub mod Filling
pub mod Cut
pub mod Changes
pub mod State
pub mod Work
pub mod Shown
pub mod Laws
