pub mod AllPlaces
pub mod Offsets
pub mod LiveTrue
