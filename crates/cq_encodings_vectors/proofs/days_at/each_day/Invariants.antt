use Rattle.std.proofs.Common.{◌≡◌, ◌≤◌, ◌+◌, ◌-◌, length, map, take}
use Rattle.std.specs.Vec.{vec_capacity, vec_len}
use Rattle.cq_encodings_vectors.specs.Places.{number_of_place}
use Rattle.cq_encodings_vectors.proofs.days_at.each_day.Given as goal

-- the days of the places so far, and there is room for the rest
abbrev pub invariant-loop-place : goal.invariant-loop-place
invariant-loop-place g l = record {
  made : l.values.items ≡ map (number_of_place l.base (g.W.Width.numbers l.offsets)) (take l.place-index l.places);
  room : vec_len l.values + (length l.places - l.place-index) ≤ vec_capacity l.values;
}
