use Rattle.std.proofs.Common.{◌≡◌, ◌<◌, ℕ, Some, slice_get}
use Rattle.cq_model.specs.Expr.{Column}
use Rattle.cq_views_state.proofs.whole_rows.are_columns.Given as goal

-- the items so far are columns, each at its place
abbrev pub invariant-loop-place : goal.invariant-loop-place
invariant-loop-place l = (i : ℕ) → i < l.place → slice_get l.items i ≡ Some (Column i)
