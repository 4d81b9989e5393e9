-- Pieces that are built into segments as they stand.
use Rattle.std.specs.Prelude.{◌≡◌, ◌≤◌, ℕ, List, ◌++◌, length, take}
use Rattle.std.specs.List.{AllByRecursion}
use Rattle.cq_values.specs.Value.{Row}
use Rattle.cq_segments_pieces.specs.Marked.{MarkedRow, rows_of}
use Rattle.cq_segments_pieces.specs.Pieces.{joined}
use Rattle.cq_table.specs.Changes.{AreBuilt}
use Rattle.cq_writestore_rows.specs.NewRows.{NoneMarked}

-- 1,024 rows, none of which has a mark
pub record IsWhole (piece : List MarkedRow) : Type 0 where
  pub long : length piece ≡ 1024
  pub fresh : NoneMarked piece

-- so are that many pieces, which come first
pub record AreWholeFirst (pieces : List (List MarkedRow)) (count : ℕ) : Type 0 where
  pub there : count ≤ length pieces
  pub whole : AllByRecursion IsWhole (take count pieces)

-- the rows of the first pieces
abbrev pub first_rows : ℕ → List (List MarkedRow) → List Row
first_rows count pieces = rows_of (joined (take count pieces))

-- with segments of rows behind these, the segments are built of all
abbrev pub BuiltBefore : List ℕ → List Row → List (List MarkedRow) → Type 0
BuiltBefore sort rows made = (rest : List Row) (next : List (List MarkedRow)) → AreBuilt sort rest next → AreBuilt sort (rows ++ rest) (made ++ next)
