use Rattle.std.proofs.Common.{◌≡◌, ◌≤◌, ◌+◌, ◌++◌, take, length}
use Rattle.cq_vectors_masks.specs.Walk.{set_bits}
use Rattle.cq_vectors_masks.proofs.walk.walk_word.Given as goal

-- what is written and what is left make up the whole
abbrev pub invariant-loop-rest : goal.invariant-loop-rest
invariant-loop-rest l = (l.n ≤ l.start + 64) × (length l.to ≡ length l.initial.to) × (take l.n l.to ++ set_bits 64 l.base l.rest ≡ take l.start l.initial.to ++ set_bits 64 l.base l.word)

abbrev pub decreases-loop-rest : goal.decreases-loop-rest
decreases-loop-rest l = l.rest
