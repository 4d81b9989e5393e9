use Rattle.std.proofs.Common.{take}
use Rattle.cq_writestore_rows.specs.Filling.{Adds}
use Rattle.cq_writestore.proofs.refilled.put_columns.Given as goal

-- the rows so far are there
abbrev pub invariant-loop-place : goal.invariant-loop-place
invariant-loop-place l = Adds (take l.place l.columns) l.initial.filling l.filling
