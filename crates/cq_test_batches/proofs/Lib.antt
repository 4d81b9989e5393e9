pub mod SmallNumbers
