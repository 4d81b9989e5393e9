pub mod Adding
pub mod Copied
pub mod Ended
pub mod Filled
pub mod NextFilling
pub mod OneMore
pub mod WholeLists
pub mod Zipped
