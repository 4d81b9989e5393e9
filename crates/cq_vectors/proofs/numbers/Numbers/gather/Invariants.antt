use Rattle.std.proofs.Common.{w64}
use Rattle.cq_values.specs.Order.{number}
use Rattle.cq_vectors.specs.Gathered.{IsNumber, column_of, lent_rows}
use Rattle.cq_vectors.proofs.Gathering.{Gathers}
use Rattle.cq_vectors.proofs.numbers.Numbers.gather.Given as goal

-- the numbers of the rows so far
abbrev pub invariant-loop-row : goal.invariant-loop-row
invariant-loop-row l = Gathers number (IsNumber w64) (column_of (lent_rows l.rows) l.column) l.row-index l.values.items l.nulls
