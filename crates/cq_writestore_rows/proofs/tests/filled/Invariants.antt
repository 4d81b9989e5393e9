use Rattle.cq_writestore_rows.specs.Filling.{IsReadyFor}
use Rattle.cq_writestore_rows.proofs.tests.filled.Given as goal

-- the next row can begin
abbrev pub invariant-loop-place : goal.invariant-loop-place
invariant-loop-place l = IsReadyFor 3 l.filling
