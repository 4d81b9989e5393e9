-- The rows so far are what an UPDATE makes of those that were looked at.
use Rattle.std.proofs.Common.{◌≡◌, take}
use Rattle.cq_model.specs.Write.{updated}
use Rattle.cq_test_plain.proofs.write.updated.Given as goal

abbrev pub invariant-loop-row : goal.invariant-loop-row
invariant-loop-row l = l.new.items ≡ updated l.assignments l.condition (take l.row-index l.rows)
