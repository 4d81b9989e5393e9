pub mod ColumnPairs
pub mod Counted
pub mod KeyOf
pub mod SetsPut
