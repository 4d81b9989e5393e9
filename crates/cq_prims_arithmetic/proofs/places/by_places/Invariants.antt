use Rattle.std.proofs.Common.{◌≡◌, ◌+◌, ◌-◌, ◌≤◌, length, map, take}
use lib.Lanes.{zip2}
use Rattle.std.specs.Vec.{vec_capacity, vec_len}
use Rattle.cq_model.specs.Group.{addend}
use Rattle.cq_prims_arithmetic.specs.Operation.{lifted, no_number}
use Rattle.cq_prims_arithmetic.proofs.places.by_places.Given as goal

-- the numbers and the flags are those of the results of the first i places, and there is room for the others
abbrev pub invariant-loop-i : goal.invariant-loop-i
invariant-loop-i g l =
    let results = take l.i (zip2 (lifted g.O.Operation.apply) l.a l.b) in
    (l.values.items ≡ map addend results) × (l.nulls ≡ map no_number results) × (vec_len l.values + (length l.a - l.i) ≤ vec_capacity l.values)
