use Rattle.std.proofs.Common.{◌≡◌, ◌+ℤ◌, ◌*ℤ◌, ◌*◌, ◌^◌, ◌≤◌, pos, take, nat_abs}
use Rattle.cq_prims_arithmetic.specs.Sums.{sum_at}
use Rattle.cq_prims_arithmetic.proofs.sums.sum_halves.Given as goal

-- the halves of the sum of the first i places, whose sizes i numbers bound
abbrev pub invariant-loop-i : goal.invariant-loop-i
invariant-loop-i l = (l.low +ℤ l.high *ℤ pos (2 ^ 64) ≡ sum_at l.values (take l.i l.places)) × (nat_abs l.low ≤ l.i * 2 ^ 64) × (nat_abs l.high ≤ l.i * 2 ^ 63)
