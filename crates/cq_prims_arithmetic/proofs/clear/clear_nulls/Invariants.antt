use Rattle.std.proofs.Common.{◌≡◌, ℕ, ◌<◌, ◌≤◌, pos, false, length, get_or}
use Rattle.cq_prims_arithmetic.specs.Operation.{zero_if}
use Rattle.cq_prims_arithmetic.proofs.clear.clear_nulls.Given as goal

-- the places before i are cleared, and the others are as they were
abbrev pub invariant-loop-i : goal.invariant-loop-i
invariant-loop-i l =
    (length l.values.items ≡ length l.initial.values.items)
    × ((k : ℕ) → k < l.i → get_or l.values.items k (pos 0) ≡ zero_if (get_or l.initial.values.items k (pos 0)) (get_or l.nulls k false))
    × ((k : ℕ) → l.i ≤ k → get_or l.values.items k (pos 0) ≡ get_or l.initial.values.items k (pos 0))
