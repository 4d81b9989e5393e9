use Rattle.std.proofs.Common.{◌≡◌, ◌≤◌, ◌+◌, ◌-◌, ◌++◌, length, map, take}
use Rattle.std.specs.Vec.{vec_capacity, vec_len}
use Rattle.cq_operators_conditions.proofs.places.append_from.Given as goal

-- the places so far, and there is room for the rest
abbrev pub invariant-loop-place : goal.invariant-loop-place
invariant-loop-place l = record {
  places : l.all.items ≡ l.initial.all.items ++ map (λ p. l.start + p) (take l.place-index l.places);
  room : vec_len l.all + (length l.places - l.place-index) ≤ vec_capacity l.all;
}
