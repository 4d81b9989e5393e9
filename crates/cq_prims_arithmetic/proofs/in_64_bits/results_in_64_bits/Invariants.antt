use Rattle.std.proofs.Common.{◌≡◌, ◌+◌, ◌-◌, ◌≤◌, take}
use lib.Lanes.{zip2}
use Rattle.std.specs.Vec.{vec_capacity, vec_len}
use Rattle.cq_prims_arithmetic.proofs.in_64_bits.results_in_64_bits.Given as goal

-- the results of the first i places, and room for the others
abbrev pub invariant-loop-i : goal.invariant-loop-i
invariant-loop-i g l =
    (l.values.items ≡ take l.i (zip2 g.O.Operation.apply (g.A.Side.numbers l.a) (g.B.Side.numbers l.b)))
    × (vec_len l.values + (l.len - l.i) ≤ vec_capacity l.values)
