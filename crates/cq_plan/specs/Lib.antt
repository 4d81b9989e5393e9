pub mod Plan
pub mod Chain
pub mod Own
pub mod OwnTest
pub mod Below
pub mod Laws
pub mod EachOwn
pub mod Planned
