use Rattle.std.proofs.Common.{ℕ, ◌<◌, ◌≤◌, pos, nat_abs, get_or}
use Rattle.cq_prims_arithmetic.proofs.sizes.largest_size.Given as goal

-- none of the first i numbers is further from zero
abbrev pub invariant-loop-i : goal.invariant-loop-i
invariant-loop-i l = (k : ℕ) → k < l.i → nat_abs (get_or l.values k (pos 0)) ≤ l.largest
