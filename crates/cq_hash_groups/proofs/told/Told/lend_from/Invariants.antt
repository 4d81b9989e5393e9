use Rattle.std.proofs.Common.{◌≡◌, ◌+◌, ◌-◌, ◌≤◌, map}
use Rattle.std.specs.Vec.{vec_capacity, vec_len}
use Rattle.cq_values.specs.Lent.{owned}
use Rattle.cq_hash_groups.specs.Shown.{CanShowFrom, shown_from}
use Rattle.cq_hash_groups.proofs.told.Told.lend_from.Given as goal

-- what the groups so far show, and room for the others
abbrev pub invariant-loop-place : goal.invariant-loop-place
invariant-loop-place l = record {
  so_far : map owned l.values.items ≡ shown_from l.self l.start l.place;
  range : CanShowFrom l.start l.place l.self;
  room : vec_len l.values + (l.len - l.place) ≤ vec_capacity l.values;
}
