use Rattle.std.proofs.Common.{take}
use Rattle.cq_writestore_rows.specs.Filling.{Adds}
use Rattle.cq_writestore.proofs.refilled.put_rows.Given as goal

-- the rows so far are there
abbrev pub invariant-loop-row : goal.invariant-loop-row
invariant-loop-row l = Adds (take l.row-index l.rows) l.initial.filling l.filling
