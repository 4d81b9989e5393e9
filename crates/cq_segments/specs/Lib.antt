pub mod Bounds
pub mod ColumnTest
pub mod Gathered
pub mod InOrder
pub mod Numbers
pub mod Segment
pub mod Sorted
pub mod Texts
