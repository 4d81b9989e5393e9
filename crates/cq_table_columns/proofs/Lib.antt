pub mod AtPlaces
pub mod LiveRows
pub mod MarkedFronts
pub mod Parts
