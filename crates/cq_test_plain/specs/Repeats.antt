-- A list without repeats, as it grows.
use Rattle.std.specs.Prelude.{Bool, List, [], ◌∷◌, ◌++◌, if◌then◌else◌}
use Rattle.std.specs.List.{list_any}
use Rattle.cq_values.specs.Order.{same_row}
use Rattle.cq_values.specs.Value.{Row}

-- whether the row is among these
abbrev pub is_among : Row → List Row → Bool
is_among row rows = list_any (λ other. same_row other row) rows

-- these rows, and the row behind them unless it is among them
abbrev pub with_new : Row → List Row → List Row
with_new row rows = if is_among row rows then rows else rows ++ row ∷ []
