use Rattle.std.proofs.Common.{◌≡◌, ◌*◌, ◌^◌, ◌≤◌, take, nat_abs}
use Rattle.cq_prims_arithmetic.specs.Sums.{sum_at}
use Rattle.cq_prims_arithmetic.proofs.sums.sum_places.Given as goal

-- the sum of the first i places, whose size i numbers bound
abbrev pub invariant-loop-i : goal.invariant-loop-i
invariant-loop-i l = (l.sum ≡ sum_at l.values (take l.i l.places)) × (nat_abs l.sum ≤ l.i * 2 ^ 63)
