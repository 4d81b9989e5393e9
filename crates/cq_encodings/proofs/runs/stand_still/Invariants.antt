use Rattle.std.proofs.Common.{◌≤◌}
use Rattle.cq_encodings.proofs.runs.stand_still.Given as goal

abbrev pub invariant-loop-i : goal.invariant-loop-i
invariant-loop-i g l = l.count ≤ l.i
