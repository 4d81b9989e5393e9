use Rattle.std.proofs.Common.{◌≡◌, ◌<◌, ◌+◌, ℕ, length, take, true}
use Rattle.std.specs.List.{concat}
use Rattle.cq_prims_texts.proofs.known_truths.are_same.Given as goal

-- the bytes are the same and the texts so far end at the same places, if it is said
abbrev pub invariant-loop-i : goal.invariant-loop-i
invariant-loop-i l = l.same ≡ true → (concat l.a ≡ concat l.b) × ((j : ℕ) → j < l.i → length (concat (take (j + 1) l.a)) ≡ length (concat (take (j + 1) l.b)))
