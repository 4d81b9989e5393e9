use Rattle.std.proofs.Common.{◌≡◌, ◌≤◌, take, length, get_or, false}
use Rattle.std.specs.List.{filter}
use Rattle.cq_vectors_masks.proofs.walk.keep_set.Given as goal

-- what is kept of the first i places
abbrev pub invariant-loop-i : goal.invariant-loop-i
invariant-loop-i l = (l.n ≤ l.i) × (length l.to ≡ length l.initial.to) × (take l.n l.to ≡ filter (λ place. get_or l.plane place false) (take l.i l.places))
