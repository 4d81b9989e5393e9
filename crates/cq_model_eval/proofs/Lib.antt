pub mod Likes
pub mod Prefixes
pub mod Trees
pub mod Chains
pub mod Conditions
pub mod Limits
pub mod Widths
pub mod Exact
