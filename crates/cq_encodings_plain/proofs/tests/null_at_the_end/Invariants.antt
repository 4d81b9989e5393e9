use Rattle.std.proofs.Common.{◌≤◌, ◌+◌, ◌-◌}
use Rattle.std.specs.Vec.{vec_capacity, vec_len}
use Rattle.cq_encodings_plain.proofs.tests.null_at_the_end.Given as goal

-- there is room for the values that are left
abbrev pub invariant-loop-i : goal.invariant-loop-i
invariant-loop-i l = record { room : vec_len l.values + (l.fn.len - l.i) ≤ vec_capacity l.values }
