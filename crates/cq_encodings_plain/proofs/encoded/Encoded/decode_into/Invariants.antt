use Rattle.std.proofs.Common.{drop, map, take, vec_capacity, ◌-◌, ◌≡◌, ◌≤◌}
use Rattle.cq_values.specs.Lent.{owned}
use Rattle.cq_encodings_plain.proofs.encoded.Encoded.decode_into.Given as goal

-- the values so far
abbrev pub invariant-loop-place : goal.invariant-loop-place
invariant-loop-place g l = record {
  done : map owned l.values.items ≡ take (l.place - l.start) (drop l.start (g.Self.Encoded.values l.self));
  room : 1024 ≤ vec_capacity l.values;
}
