use Rattle.std.proofs.Common.{◌≤◌, ◌+◌, ◌-◌, length}
use Rattle.std.specs.Vec.{vec_capacity, vec_len}
use Rattle.cq_encodings.proofs.tests.lent.Given as goal

-- there is room for the values that are left
abbrev pub invariant-loop-value : goal.invariant-loop-value
invariant-loop-value l = record { room : vec_len l.lent + (length l.values - l.value-index) ≤ vec_capacity l.lent }
