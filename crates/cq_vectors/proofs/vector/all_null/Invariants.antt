use Rattle.std.proofs.Common.{◌≡◌, replicate, take}
use Rattle.cq_values.specs.declared.value.Value.TheVariants.{Null}
use Rattle.cq_vectors.specs.Gathered.{column_of, lent_rows}
use Rattle.cq_vectors.proofs.vector.all_null.Given as goal

-- the rows so far have NULL
abbrev pub invariant-loop-row : goal.invariant-loop-row
invariant-loop-row l = take l.row-index (column_of (lent_rows l.rows) l.column) ≡ replicate l.row-index Null
