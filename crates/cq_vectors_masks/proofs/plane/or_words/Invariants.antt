use Rattle.std.proofs.Common.{◌≡◌, ◌^◌, ℕ, ◌<◌, get_or, length}
use Rattle.std.specs.Int.RustNames.{bit_or}
use Rattle.cq_vectors_masks.proofs.plane.or_words.Given as goal

-- the words below k are made
abbrev pub invariant-loop-k : goal.invariant-loop-k
invariant-loop-k l = (length l.words ≡ 16) × ((j : ℕ) → j < l.k → (get_or l.other j 0 < 2 ^ 64) × (get_or l.words j 0 ≡ bit_or (get_or l.to j 0) (get_or l.other j 0)))
