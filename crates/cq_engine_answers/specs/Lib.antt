pub mod Narrow
pub mod Reading
pub mod Gathered
pub mod Selects
pub mod Lent
pub mod AtHand
