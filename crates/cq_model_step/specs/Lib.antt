pub mod Named
pub mod Next
pub mod Step
pub mod Output
