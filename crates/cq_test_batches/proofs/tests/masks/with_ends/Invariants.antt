use Rattle.std.proofs.Common.{◌≡◌, length}
use Rattle.cq_test_batches.proofs.tests.masks.with_ends.Given as goal

-- the plane has the places so far
abbrev pub invariant-loop-place : goal.invariant-loop-place
invariant-loop-place l = length l.plane ≡ l.place
