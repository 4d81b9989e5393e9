pub mod Clear
pub mod Decoding
pub mod Pieces
pub mod Zipped
