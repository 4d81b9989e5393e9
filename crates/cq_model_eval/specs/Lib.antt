pub mod Choices
pub mod PatternPrefix
pub mod Laws
