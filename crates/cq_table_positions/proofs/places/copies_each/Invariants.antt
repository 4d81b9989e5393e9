use Rattle.std.proofs.Common.{◌≡◌, ◌≤◌, ◌+◌, ◌-◌, length, take}
use Rattle.std.specs.Vec.{vec_capacity, vec_len}
use Rattle.cq_encodings_vectors.specs.Places.{places_at}
use Rattle.cq_table_positions.proofs.places.copies_each.Given as goal

-- what stands at the places so far, and there is room for the rest
abbrev pub invariant-loop-place : goal.invariant-loop-place
invariant-loop-place l = record {
  places : l.found.items ≡ places_at l.all (take l.place-index l.places);
  room : vec_len l.found + (length l.places - l.place-index) ≤ vec_capacity l.found;
}
