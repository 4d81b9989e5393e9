use Rattle.std.proofs.Common.{◌≡◌, ◌+◌, ◌-◌, ◌≤◌, map}
use Rattle.std.specs.Vec.{vec_capacity, vec_len}
use Rattle.cq_values.specs.Lent.{owned}
use Rattle.cq_hash_groups.specs.Shown.{keys_from}
use Rattle.cq_hash_groups.proofs.shown.lend_keys.Given as goal

-- the values so far, and room for the others
abbrev pub invariant-loop-place : goal.invariant-loop-place
invariant-loop-place l = record {
  so_far : map owned l.values.items ≡ keys_from l.found.keys l.column l.start l.place;
  room : vec_len l.values + (l.len - l.place) ≤ vec_capacity l.values;
}
