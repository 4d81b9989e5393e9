pub mod Fronts
pub mod Asking
pub mod PlacesWhere
pub mod Skipped
pub mod Standing
