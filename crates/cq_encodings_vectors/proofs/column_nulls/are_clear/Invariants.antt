use Rattle.std.proofs.Common.{◌≡◌, ◌*◌, ◌<◌, ℕ, false, get_or}
use Rattle.cq_encodings_vectors.proofs.column_nulls.are_clear.Given as goal

-- none of the flags so far is set
abbrev pub invariant-loop-k : goal.invariant-loop-k
invariant-loop-k l = (place : ℕ) → place < 1024 * l.k → get_or l.nulls place false ≡ false
