pub mod Pointwise
pub mod State
pub mod Fitting
