-- Rows between two places of a list, and their columns.
use Rattle.std.specs.Prelude.{ℕ, List, drop, map, take}
use Rattle.std.specs.List.{range_with_len}
use Rattle.cq_values.specs.Value.{Row, column}
use Rattle.cq_values.specs.declared.value.Value.{Value}

-- the rows from one place up to another
abbrev pub between : ℕ → ℕ → List Row → List Row
between start end rows = drop start (take end rows)

-- the values of one column
abbrev pub column_in : ℕ → List Row → List Value
column_in place rows = map (λ row. column row place) rows

-- the values of each of so many columns
abbrev pub columns_in : ℕ → List Row → List (List Value)
columns_in width rows = map (λ place. column_in place rows) (range_with_len 0 width)
