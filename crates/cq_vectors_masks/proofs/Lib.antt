pub mod PlaneLemmas
pub mod PushLemmas
pub mod BlockLemmas
pub mod MaskLemmas
pub mod WalkLemmas
pub mod SelectionLemmas
