pub mod Operation
pub mod Sides
pub mod Sums
pub mod Unbroken
