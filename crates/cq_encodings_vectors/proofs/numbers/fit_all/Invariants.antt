use Rattle.std.proofs.Common.{ℕ, ◌<◌, get_or, pos, FitsSigned, w64}
use Rattle.cq_encodings_vectors.proofs.numbers.fit_all.Given as goal

-- the numbers so far fit
abbrev pub invariant-loop-number : goal.invariant-loop-number
invariant-loop-number l = (k : ℕ) → k < l.number-index → FitsSigned w64 (get_or l.numbers k (pos 0))
