pub mod Same
pub mod Core
pub mod Laws
