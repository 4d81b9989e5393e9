pub mod Coded
pub mod Different
pub mod Lending
pub mod Neighbours
pub mod Repeats
pub mod TextCodes
