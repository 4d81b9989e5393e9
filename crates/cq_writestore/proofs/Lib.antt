pub mod Flagged
pub mod MarkedLists
pub mod SpotLists
