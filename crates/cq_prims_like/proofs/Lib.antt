pub mod Fitting
pub mod PieceLemmas
pub mod AroundLemmas
pub mod PlaceLemmas
pub mod FormLemmas
pub mod RunLemmas
