use Rattle.std.proofs.Common.{◌≡◌, ◌≤◌, ◌+◌, ◌-◌, length, take}
use Rattle.std.specs.Vec.{vec_capacity, vec_len}
use Rattle.cq_vectors_stored.specs.Columns.{texts_of}
use Rattle.cq_encodings_vectors.specs.Places.{run_at_places}
use Rattle.cq_encodings_vectors.proofs.run_at.lent_texts.Given as goal

-- the texts of the places so far are lent, and there is room for the rest
abbrev pub invariant-loop-place : goal.invariant-loop-place
invariant-loop-place l = record {
  lent : texts_of l.lent.items ≡ run_at_places l.texts l.start l.nulls (take l.place-index l.places);
  room : vec_len l.lent + (length l.places - l.place-index) ≤ vec_capacity l.lent;
}
