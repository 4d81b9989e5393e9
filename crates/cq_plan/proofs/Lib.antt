pub mod Asked
pub mod Below
pub mod Chains
pub mod Exactly
pub mod Owned
pub mod OwnTests
pub mod EachOwn
pub mod Planned
