use Rattle.std.proofs.Common.{length, ◌≡◌, ◌^◌, ℕ, ◌<◌, get_or, w64}
use Rattle.std.specs.Int.{bit_not}
use Rattle.std.specs.Int.RustNames.{bit_and}
use Rattle.cq_vectors_masks.proofs.plane.and_not_words.Given as goal

-- the words below k are made
abbrev pub invariant-loop-k : goal.invariant-loop-k
invariant-loop-k l = (length l.words ≡ 16) × ((j : ℕ) → j < l.k → (get_or l.b j 0 < 2 ^ 64) × (get_or l.words j 0 ≡ bit_and (get_or l.a j 0) (bit_not w64 (get_or l.b j 0))))
