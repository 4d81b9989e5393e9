use Rattle.std.proofs.Common.{◌≡◌, ◌+◌, ◌-◌, ◌≤◌, length, map, take}
use Rattle.std.specs.Vec.{vec_capacity, vec_len}
use Rattle.cq_model.specs.Eval.{extracted}
use Rattle.cq_model.specs.Group.{addend}
use Rattle.std.specs.Int.{w64}
use Rattle.cq_vectors_stored.specs.Columns.{AllFit}
use Rattle.cq_prims_arithmetic.specs.Operation.{no_number}
use Rattle.cq_prims_arithmetic.proofs.parts.parts_by_places.Given as goal

-- the numbers and the flags are those of the parts of the first i places, and there is room for the others
abbrev pub invariant-loop-i : goal.invariant-loop-i
invariant-loop-i l =
    let parts = take l.i (map (extracted l.part) l.a) in
    (l.values.items ≡ map addend parts) × (l.nulls ≡ map no_number parts) × (vec_len l.values + (length l.a - l.i) ≤ vec_capacity l.values)
    × AllFit w64 l.values.items
