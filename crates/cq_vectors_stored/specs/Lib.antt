pub mod Columns
pub mod FlaggedOffsets
pub mod LentColumns
pub mod Offsets
pub mod Sizes
pub mod TextRun
