pub mod Atoms
pub mod Chains
pub mod Expressions
pub mod Gives
pub mod Lists
pub mod Predicates
pub mod Read
pub mod Trees
