pub mod Creating
pub mod Deleting
pub mod Sorting
pub mod Setting
pub mod Fitting
pub mod CopiedFiles
