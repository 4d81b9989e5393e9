pub mod Places
pub mod Renamed
pub mod Reads
pub mod Naming
pub mod Laws
