-- Tables by their numbers, and the rows that they hold.
use Rattle.std.specs.Prelude.{◌≡◌, ◌+◌, ℕ, List, length, Option, slice_get}
use Rattle.cq_values.specs.Value.{Row}
use Rattle.cq_model.specs.declared.assignment.Assignment.{Assignment}
use Rattle.cq_model.specs.Expr.{Cond}
use Rattle.cq_binder_rules.specs.declared.fault.Fault.{Fault}
use Rattle.cq_model_state.specs.State.{TableOf, table_named}
use Rattle.cq_table.specs.Checks.{too_many, value_fault}
use Rattle.cq_table.specs.Table.{StoredTable, table_rows}

-- the table of a name stands at the place
abbrev pub IsPlaceNamed : List ℕ → List TableOf → ℕ → Type 0
IsPlaceNamed name tables place = slice_get tables place ≡ table_named name tables

-- a stored table under its number and its name
abbrev pub named : ℕ → List ℕ → StoredTable → TableOf
named number name t = record { number = number; name = name; columns = t.columns; sort = t.sort; rows = table_rows t }

-- whether the rows are too many for a table that may have so many
abbrev pub no_room_for : ℕ → TableOf → List Row → Option Fault
no_room_for max_rows t rows = too_many max_rows (length t.rows + length rows)

-- why the values that the chosen rows of a table get may not be stored
abbrev pub value_fault_of : TableOf → List Assignment → Option Cond → Option Fault
value_fault_of t assignments condition = value_fault t.columns assignments condition t.rows
