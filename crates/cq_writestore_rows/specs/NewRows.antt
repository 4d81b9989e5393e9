-- Rows of which the first stand in pieces.
use Rattle.std.specs.Prelude.{◌≡◌, ◌<◌, ◌+◌, ◌^◌, List, length}
use Rattle.std.specs.List.{AllByRecursion}
use Rattle.cq_values.specs.Value.{Row}
use Rattle.cq_segments_pieces.specs.Marked.{MarkedRow, rows_of, unmarked}
use Rattle.cq_segments_pieces.specs.Pieces.{joined}

-- 1,024 items to each list
abbrev pub AreWhole : {X : Type 0} → List (List X) → Type 0
AreWhole lists = AllByRecursion (λ list. length list ≡ 1024) lists

-- none of these rows has a mark
abbrev pub NoneMarked : List MarkedRow → Type 0
NoneMarked rows = rows ≡ unmarked (rows_of rows)

-- whole pieces without a mark, and so many rows with those behind them that all can be counted
pub record AreFresh (pieces : List (List MarkedRow)) (tail : List Row) : Type 0 where
  pub whole : AreWhole pieces
  pub fresh : NoneMarked (joined pieces)
  pub small : length (joined pieces) + length tail < 2 ^ 63
