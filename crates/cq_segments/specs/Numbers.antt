-- Values that numbers stand for.
use Rattle.std.specs.Prelude.{◌≡◌, ℕ, ℤ, false, List, Some, Vec}
use Rattle.std.specs.Global.{Global}
use Rattle.std.specs.List.{AllByRecursion}
use Rattle.cq_values.specs.Value.{Row}
use Rattle.cq_values.specs.declared.value.Value.{Value}
use Rattle.cq_encodings_plain.specs.declared.kind.Kind.{Kind}
use Rattle.cq_encodings_plain.specs.Kind.{IsOf, datum, number_values}
use Rattle.cq_encodings_numbers.specs.Bounds.{AreBounds}
use Rattle.cq_segments_pieces.specs.Marked.{MarkedRow, rows_of}
use Rattle.cq_segments_pieces.specs.Pieces.{joined}
use Rattle.cq_vectors.specs.Gathered.{column_of}

-- the numbers are of the kind, and stand for the values
pub record AreNumbers (kind : Kind) (numbers : List ℤ) (values : List Value) : Type 0 where
  pub of : AllByRecursion (IsOf kind) numbers
  pub same : number_values kind numbers ≡ values

-- they stand for a column of rows
abbrev pub AreNumbersAt : Kind → List ℤ → List Row → ℕ → Type 0
AreNumbersAt kind numbers rows column = AreNumbers kind numbers (column_of rows column)

-- so do numbers of a kind that were found in pieces
abbrev pub AreNumbersIn : List (List MarkedRow) → ℕ → Kind × Vec ℤ Global → Type 0
AreNumbersIn pieces column found = AreNumbersAt found.0 found.1.items (rows_of (joined pieces)) column

-- the numbers stand for the bounds of values without NULL
abbrev pub AreEnds : Kind → ℤ → ℤ → List Value → Type 0
AreEnds kind least greatest values = AreBounds false (Some (datum kind least false, datum kind greatest false)) values
