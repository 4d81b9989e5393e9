pub mod Places
pub mod Renamed
pub mod Reads
pub mod Narrow
pub mod Laws
