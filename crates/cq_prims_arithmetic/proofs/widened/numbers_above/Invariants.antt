use Rattle.std.proofs.Common.{◌≡◌, ◌+◌, ◌-◌, ◌≤◌, map, take}
use Rattle.std.specs.Vec.{vec_capacity, vec_len}
use Rattle.cq_vectors_stored.specs.Offsets.{offsets_in}
use Rattle.cq_prims_arithmetic.specs.Sides.{above}
use Rattle.cq_prims_arithmetic.proofs.widened.numbers_above.Given as goal

-- the numbers of the first i places, and room for the others
abbrev pub invariant-loop-i : goal.invariant-loop-i
invariant-loop-i l =
    (l.values.items ≡ map (above l.base) (take l.i (offsets_in l.offsets)))
    × (vec_len l.values + (l.len - l.i) ≤ vec_capacity l.values)
