use Rattle.std.proofs.Common.{◌≡◌, ◌≤◌, ◌+◌, ◌-◌, length, map, take}
use Rattle.std.specs.Vec.{vec_capacity, vec_len}
use Rattle.cq_encodings.specs.AnyEncoded.{encoded_values}
use Rattle.cq_encodings_vectors.specs.Places.{values_at}
use Rattle.cq_values.specs.Lent.{owned}
use Rattle.cq_encodings_vectors.proofs.columns.lent_at.Given as goal

-- the values of the places so far are lent, and there is room for the rest
abbrev pub invariant-loop-place : goal.invariant-loop-place
invariant-loop-place l = record {
  lent : map owned l.lent.items ≡ values_at (encoded_values l.encoded) (take l.place-index l.places);
  room : vec_len l.lent + (length l.places - l.place-index) ≤ vec_capacity l.lent;
}
