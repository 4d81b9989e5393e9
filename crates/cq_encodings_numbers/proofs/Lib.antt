pub mod Above
pub mod Datums
pub mod NumbersAbove
pub mod PartEnds
pub mod Walking
