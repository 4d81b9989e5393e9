pub mod Pairwise
pub mod Numbered
