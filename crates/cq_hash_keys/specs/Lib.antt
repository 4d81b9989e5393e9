pub mod Grid
pub mod Keys
pub mod Pairs
pub mod Stages
pub mod Table
