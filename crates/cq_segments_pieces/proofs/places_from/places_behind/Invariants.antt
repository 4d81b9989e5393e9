use Rattle.std.proofs.Common.{◌≡◌, ◌≤◌, ◌+◌, ◌-◌, length, map, take}
use Rattle.std.specs.Vec.{vec_capacity, vec_len}
use Rattle.cq_segments_pieces.proofs.places_from.places_behind.Given as goal

-- the places so far, and there is room for the rest
abbrev pub invariant-loop-place : goal.invariant-loop-place
invariant-loop-place l = record {
  places : l.behind.items ≡ map (λ place. l.from + place) (take l.place-index l.places);
  room : vec_len l.behind + (length l.places - l.place-index) ≤ vec_capacity l.behind;
}
