pub mod Known
pub mod Bytes
pub mod Shown
pub mod Liked
pub mod RunTruths
pub mod NamedTruths
pub mod SameTexts
