-- Items that show each row as it is.
use Rattle.std.specs.Prelude.{◌≡◌, ◌<◌, ℕ, List, Some, length, slice_get}
use Rattle.cq_model.specs.Expr.{Expr, Column}

-- each item is the column at its own place
abbrev pub AreColumns : List Expr → Type 0
AreColumns items = (i : ℕ) → i < length items → slice_get items i ≡ Some (Column i)
