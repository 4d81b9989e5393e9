use Rattle.std.proofs.Common.{◌≡◌, take}
use Rattle.cq_writestore_rows.proofs.new_rows.copied.Given as goal

-- those so far
abbrev pub invariant-loop-row : goal.invariant-loop-row
invariant-loop-row l = l.copies.items ≡ take l.row-index l.rows
