use Rattle.cq_values.specs.Order.{number}
use Rattle.cq_vectors.specs.Gathered.{IsDate, column_of, lent_rows}
use Rattle.cq_vectors.proofs.Gathering.{Gathers}
use Rattle.cq_vectors.proofs.days.Days.gather.Given as goal

-- the days of the rows so far
abbrev pub invariant-loop-row : goal.invariant-loop-row
invariant-loop-row l = Gathers number IsDate (column_of (lent_rows l.rows) l.column) l.row-index l.values.items l.nulls
