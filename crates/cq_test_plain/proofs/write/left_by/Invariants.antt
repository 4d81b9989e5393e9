-- The rows so far are what a DELETE leaves of those that were looked at.
use Rattle.std.proofs.Common.{◌≡◌, take}
use Rattle.cq_model.specs.Write.{left_by}
use Rattle.cq_test_plain.proofs.write.left_by.Given as goal

abbrev pub invariant-loop-row : goal.invariant-loop-row
invariant-loop-row l = l.left.items ≡ left_by l.condition (take l.row-index l.rows)
