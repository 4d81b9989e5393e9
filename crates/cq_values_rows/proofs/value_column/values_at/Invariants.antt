use Rattle.std.proofs.Common.{◌≡◌, map, take}
use Rattle.cq_values.specs.Value.{column}
use Rattle.cq_values_rows.proofs.value_column.values_at.Given as goal

-- the values at the places so far
abbrev pub invariant-loop-place : goal.invariant-loop-place
invariant-loop-place l = l.copies.items ≡ map (column l.values) (take l.place-index l.places)
