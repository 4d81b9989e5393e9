pub mod Chains
pub mod Expressions
pub mod Terms
pub mod Nodes
pub mod Types
