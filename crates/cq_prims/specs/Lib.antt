pub mod NumberSide
pub mod DaySide
pub mod WideSide
pub mod Numbers
pub mod Sides
pub mod Beside
pub mod OneTruth
pub mod Turned
