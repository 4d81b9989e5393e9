pub mod Compared
pub mod Shown
pub mod NullLemmas
pub mod Beside
pub mod SideLanes
