pub mod Trees
pub mod Values
pub mod Names
pub mod AlwaysExact
