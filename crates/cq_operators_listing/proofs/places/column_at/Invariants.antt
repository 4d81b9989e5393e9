use Rattle.std.proofs.Common.{◌≡◌, map, take}
use Rattle.cq_values.specs.Value.{column}
use Rattle.cq_operators_listing.proofs.places.column_at.Given as goal

-- the values at the places so far
abbrev pub invariant-loop-place : goal.invariant-loop-place
invariant-loop-place l = l.copies ≡ map (column l.values) (take l.place-index l.places)
