-- Rows that come value by value.
use Rattle.std.specs.Prelude.{◌≡◌, ◌<◌, ◌≤◌, ◌+◌, ◌*◌, ◌^◌, ◌++◌, ℕ, List, [], ◌∷◌, length, slice_index_or}
use Rattle.cq_values.specs.Value.{Row}
use Rattle.cq_values.specs.declared.value.Value.{Value}
use Rattle.cq_segments_pieces.specs.Columns.{AreWide}
use Rattle.cq_segments_pieces.specs.Marked.{MarkedRow}
use Rattle.cq_segments_pieces.specs.Pieces.{joined}
use Rattle.cq_writestore_rows.specs.NewRows.{AreWhole, NoneMarked}

-- the rows that have ended, the values of the one that is begun, and how many values a row has
pub record Filled : Type 0 where
  pub rows : List Row
  pub begun : Row
  pub width : ℕ

-- there is no row yet, and none is begun
abbrev pub IsEmpty : ℕ → Filled → Type 0
IsEmpty width filled = filled ≡ record { rows = []; begun = []; width = width }

-- rows of so many values, and none of them is begun
pub record IsReadyFor (width : ℕ) (filled : Filled) : Type 0 where
  pub none : filled.begun ≡ []
  pub wide : filled.width ≡ width

-- a value more in the row that is begun
abbrev pub with_value : Value → Filled → Filled
with_value value old = record { rows = old.rows; begun = old.begun ++ value ∷ []; width = old.width }

-- the row that is begun ends
abbrev pub with_row : Filled → Filled
with_row old = record { rows = old.rows ++ old.begun ∷ []; begun = []; width = old.width }

-- the next row can begin, and these are as wide as each is to be
pub record CanTake (rows : List Row) (filled : Filled) : Type 0 where
  pub none : filled.begun ≡ []
  pub wide : AreWide filled.width rows

-- these rows have come behind the others, and the next one can begin
pub record Adds (rows : List Row) (old new : Filled) : Type 0 where
  pub put : new.rows ≡ old.rows ++ rows
  pub none : new.begun ≡ []
  pub wide : new.width ≡ old.width

-- the rows fill pieces of 1,024, and none is begun
pub record IsWhole (filled : Filled) : Type 0 where
  pub pieces : ℕ
  pub count : length filled.rows ≡ 1024 * pieces
  pub none : filled.begun ≡ []

-- rows more, all at once
abbrev pub with_rows : List Row → Filled → Filled
with_rows rows old = record { rows = old.rows ++ rows; begun = old.begun; width = old.width }

-- columns of so many values, and those before a place have one more
pub record AreBegun (columns : List (List Value)) (begun len : ℕ) : Type 0 where
  pub within : begun ≤ length columns
  pub before : (k : ℕ) → k < begun → length (slice_index_or columns k []) ≡ len + 1
  pub behind : (k : ℕ) → begun ≤ k → k < length columns → length (slice_index_or columns k []) ≡ len

-- each column has so many values, or more
abbrev pub AreOpen : ℕ → List (List Value) → Type 0
AreOpen len columns = (k : ℕ) → k < length columns → len ≤ length (slice_index_or columns k [])

-- whole pieces, and columns of fewer rows behind them
pub record IsFilling (pieces : List (List MarkedRow)) (width : ℕ) (columns : List (List Value)) (begun len : ℕ) : Type 0 where
  pub whole : AreWhole pieces
  pub fresh : NoneMarked (joined pieces)
  pub small : length (joined pieces) + len < 2 ^ 63
  pub wide : length columns ≡ width
  pub few : len < 1024
  pub are : AreBegun columns begun len
