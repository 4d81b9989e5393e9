use Rattle.std.proofs.Common.{◌≡◌, take}
use Rattle.cq_encodings_vectors.specs.Places.{flags_at}
use Rattle.cq_encodings_vectors.proofs.column_nulls.read_flags.Given as goal

-- the flags of the places so far
abbrev pub invariant-loop-place : goal.invariant-loop-place
invariant-loop-place l = l.flags ≡ flags_at l.nulls (take l.place-index l.places)
