pub mod ColumnLemmas
pub mod SizeLemmas
pub mod LentLemmas
pub mod TextRunLemmas
