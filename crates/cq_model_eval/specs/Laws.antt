-- What holds of expressions and conditions: LIKE is decided by its test, widths by limits of columns, and what is narrow is exact.
use Rattle.std.specs.Prelude.{◌≡◌, ◌≤◌, ℕ, true, List, Some}
use Rattle.cq_values.specs.Value.{Row}
use Rattle.cq_model.specs.Exact.{AreExactIn, IsExactAt}
use Rattle.cq_model.specs.Expr.{Expr, Cond}
use Rattle.cq_model.specs.Like.{Fits, like}
use Rattle.cq_model.specs.Width.{IsNarrowAt, IsNarrowIn, IsWithin, KeepsLimits, extent_limit, extent, widest_at, widest_limit}

-- the test answers true exactly where the pattern fits
abbrev pub LikeDecides : Type 0
LikeDecides = (pattern text : List ℕ) → (like pattern text ≡ true → Fits pattern text) × (Fits pattern text → like pattern text ≡ true)

-- at each row that keeps the limits, an expression's extent is within its limit
abbrev pub LimitHolds : Type 0
LimitHolds = (e : Expr) (columns : List ℕ) (row : Row) → KeepsLimits columns row → IsWithin (extent e row) (extent_limit e columns)

-- at each row that keeps the limits, no number written or worked out in a condition is wider than its limit
abbrev pub LimitHoldsIn : Type 0
LimitHoldsIn = (c : Cond) (columns : List ℕ) (row : Row) → KeepsLimits columns row → widest_at c row ≤ widest_limit c columns

-- where nothing is too wide on the way to an expression's value, each exact result fits 128 bits
abbrev pub NarrowIsExact : Type 0
NarrowIsExact = (e : Expr) (row : Row) → IsNarrowAt e row → IsExactAt e row

-- and where nothing is in a condition, each in it does
abbrev pub NarrowIsExactIn : Type 0
NarrowIsExactIn = (c : Cond) (row : Row) → IsNarrowIn (Some c) row → AreExactIn c row
