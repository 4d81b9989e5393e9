pub mod Calendar
pub mod Parts
pub mod NamedDays
pub mod Sums
