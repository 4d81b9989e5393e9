use Rattle.std.proofs.Common.{take}
use Rattle.cq_encodings_vectors.specs.Places.{AreBelow}
use Rattle.cq_test_storage.proofs.tests.columns.are_below.Given as goal

-- the places so far are below the end
abbrev pub invariant-loop-place : goal.invariant-loop-place
invariant-loop-place l = AreBelow l.end (take l.place-index l.places)
