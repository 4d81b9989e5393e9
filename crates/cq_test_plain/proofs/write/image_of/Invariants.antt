-- First a copy of the old row, and then with the columns set that were looked at.
use Rattle.std.proofs.Common.{◌≡◌, take}
use Rattle.cq_model.specs.Write.{with_set}
use Rattle.cq_test_plain.proofs.write.image_of.Given as goal

abbrev pub invariant-loop-value : goal.invariant-loop-value
invariant-loop-value l = l.values.items ≡ take l.value-index l.old

abbrev pub invariant-loop-assignment : goal.invariant-loop-assignment
invariant-loop-assignment l = l.values.items ≡ with_set (take l.assignment-index l.assignments) l.old l.old
