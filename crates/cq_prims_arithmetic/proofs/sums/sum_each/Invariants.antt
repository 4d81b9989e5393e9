use Rattle.std.proofs.Common.{◌≡◌, ◌+◌, ◌+ℤ◌, ◌*◌, ◌^◌, ◌≤◌, take, nat_abs}
use Rattle.cq_prims_arithmetic.specs.Sums.{sum_of}
use Rattle.cq_prims_arithmetic.proofs.sums.sum_each.Given as goal

-- the sum of the first i places has been added, and its size i numbers bound
abbrev pub invariant-loop-i : goal.invariant-loop-i
invariant-loop-i l = (l.total ≡ l.initial.total +ℤ sum_of l.a (take l.i l.places)) × (nat_abs l.total ≤ 2 ^ 249 + l.i * 2 ^ 127)
