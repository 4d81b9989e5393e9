use Rattle.std.proofs.Common.{◌≡◌, ◌≤◌, ◌+◌, ◌-◌}
use Rattle.std.specs.List.{range_with_len}
use Rattle.std.specs.Vec.{vec_capacity, vec_len}
use Rattle.cq_segments_pieces.proofs.places_from.places_from.Given as goal

-- the places so far, and there is room for the rest
abbrev pub invariant-loop-place : goal.invariant-loop-place
invariant-loop-place l = record {
  places : l.places.items ≡ range_with_len l.from l.place;
  room : vec_len l.places + (l.count - l.place) ≤ vec_capacity l.places;
}
