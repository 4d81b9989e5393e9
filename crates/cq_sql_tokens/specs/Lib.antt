pub mod Reading
pub mod Lexing
pub mod Cutting
pub mod Piece
pub mod Laws
pub mod Runs
