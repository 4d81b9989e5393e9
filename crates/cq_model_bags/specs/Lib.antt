pub mod Bag
pub mod Join
pub mod Size
pub mod Canonical
pub mod Listing
pub mod Laws
