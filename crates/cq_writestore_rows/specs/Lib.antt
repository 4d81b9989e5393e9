pub mod Filling
pub mod NewRows
pub mod TypedColumn
