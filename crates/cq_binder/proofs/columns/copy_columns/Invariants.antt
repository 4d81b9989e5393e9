use Rattle.std.proofs.Common.{◌≡◌, take}
use Rattle.cq_binder.proofs.columns.copy_columns.Given as goal

-- the copies so far are the columns so far
abbrev pub invariant-loop-column : goal.invariant-loop-column
invariant-loop-column l = l.copies ≡ take l.column-index l.columns
