use Rattle.std.proofs.Common.{◌≡◌}
use Rattle.cq_operators.specs.Batches.{between, columns_in}
use Rattle.cq_operators.proofs.batches.columns_between.Given as goal

-- the columns so far
abbrev pub invariant-loop-column : goal.invariant-loop-column
invariant-loop-column l = l.columns.items ≡ columns_in l.column (between l.start l.end l.list)
