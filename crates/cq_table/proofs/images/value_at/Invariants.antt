use Rattle.std.proofs.Common.{◌≡◌, take}
use Rattle.cq_values.specs.Lent.{owned}
use Rattle.cq_values.specs.Value.{column}
use Rattle.cq_model.specs.Write.{with_set}
use Rattle.cq_table.proofs.images.value_at.Given as goal

-- the value after the assignments so far
abbrev pub invariant-loop-assignment : goal.invariant-loop-assignment
invariant-loop-assignment l = owned l.value ≡ column (with_set (take l.assignment-index l.assignments) l.old l.old) l.place
