use Rattle.std.proofs.Common.{◌≡◌, map, take}
use Rattle.cq_values.specs.Lent.{owned}
use Rattle.cq_vectors.specs.Gathered.{column_of, lent_rows}
use Rattle.cq_vectors.proofs.vector.lent_values.Given as goal

-- the values of the rows so far
abbrev pub invariant-loop-row : goal.invariant-loop-row
invariant-loop-row l = map owned l.values.items ≡ take l.row-index (column_of (lent_rows l.rows) l.column)
