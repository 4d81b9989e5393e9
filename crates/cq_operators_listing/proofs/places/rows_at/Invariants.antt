use Rattle.std.proofs.Common.{◌≡◌, List, map, take}
use Rattle.cq_values.specs.declared.value.Value.{Value}
use Rattle.cq_values.specs.Value.{column}
use Rattle.cq_operators_listing.proofs.places.rows_at.Given as goal

-- the columns so far are copied
abbrev pub invariant-loop-values : goal.invariant-loop-values
invariant-loop-values l = l.copies.items ≡ map (λ (values : List Value). map (column values) l.places) (take l.values-index l.columns)
