pub mod Alike
pub mod SameAnswers
pub mod Decided
