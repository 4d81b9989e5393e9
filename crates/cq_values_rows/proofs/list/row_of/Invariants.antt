use Rattle.std.proofs.Common.{◌≡◌, take}
use Rattle.cq_values_rows.specs.Columns.{row_at}
use Rattle.cq_values_rows.proofs.list.row_of.Given as goal

-- the values so far
abbrev pub invariant-loop-values : goal.invariant-loop-values
invariant-loop-values l = l.row ≡ row_at (take l.values-index l.columns) l.place
