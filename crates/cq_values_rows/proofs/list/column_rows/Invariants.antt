use Rattle.std.proofs.Common.{◌≡◌}
use Rattle.cq_values_rows.specs.Columns.{rows_of_columns}
use Rattle.cq_values_rows.proofs.list.column_rows.Given as goal

-- the rows so far
abbrev pub invariant-loop-place : goal.invariant-loop-place
invariant-loop-place l = l.list.items ≡ rows_of_columns l.rows.columns.items l.place
