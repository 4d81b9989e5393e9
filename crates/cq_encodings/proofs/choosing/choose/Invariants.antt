use Rattle.std.proofs.Common.{length, map, take, vec_capacity, vec_len, ◌+◌, ◌-◌, ◌≡◌, ◌≤◌}
use Rattle.cq_values.specs.Lent.{owned}
use Rattle.cq_encodings.proofs.choosing.choose.Given as goal

-- the values so far are lent
abbrev pub invariant-loop-value : goal.invariant-loop-value
invariant-loop-value l = record {
  done : map owned l.lent.items ≡ take l.value-index l.values;
  room : vec_len l.lent + (length l.values - l.value-index) ≤ vec_capacity l.lent;
}
