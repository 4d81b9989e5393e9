-- What a table refuses: rows that it has no room for, and values that its columns cannot have.
use Rattle.std.specs.Prelude.{◌≡◌, ◌≤◌, ◌+◌, nat_lt, ℕ, List, length, map, Option, None, Result, MatchResult, Vec}
use Rattle.std.specs.Global.{Global}
use Rattle.std.specs.List.{AllByRecursion, flat_map}
use Rattle.cq_values.specs.declared.column.ColumnDef.{ColumnDef}
use Rattle.cq_values.specs.Value.{Row}
use Rattle.cq_model.specs.declared.assignment.Assignment.{Assignment}
use Rattle.cq_model.specs.Expr.{Cond}
use Rattle.cq_model.specs.Width.{IsNarrowAt, IsNarrowIn}
use Rattle.cq_model.specs.Write.{chosen, image_of}
use Rattle.cq_binder_rules.specs.declared.fault.Fault.{Fault}
use Rattle.cq_binder_rules.specs.declared.fault.Fault.TheVariants as faults
use Rattle.cq_binder_rules.specs.Checks.{MayRefuse, fault_if, first_fault}
use Rattle.cq_binder_rules.specs.UpdateChecks.{image_checks, value_checks}
use Rattle.cq_table.specs.declared.fault.TableFault.{TableFault}
use Rattle.cq_table.specs.declared.fault.TableFault.TheVariants as tables
use Rattle.cq_table.specs.Found.{IsFound, rows_found}
use Rattle.cq_table.specs.Table.{StoredTable, table_rows}
use Rattle.cq_model_state.specs.Fitting.{FitsColumns}

-- the refusal of a statement that the fault of a table is
abbrev pub fault_of : TableFault → Fault
fault_of tables.Memory = faults.Memory
fault_of tables.Full = faults.TableFull
fault_of tables.NumberOutside = faults.NumberOutside
fault_of tables.NullNotAllowed = faults.NullNotAllowed

-- a check is passed, or it refuses
abbrev pub IsChecked : {X : Type 0} → Option Fault → Result X TableFault → Type 0
IsChecked check result = MatchResult result (λ x. check ≡ None) (λ e. MayRefuse check (fault_of e))

-- whether so many rows are too many for a table
abbrev pub too_many : ℕ → ℕ → Option Fault
too_many max_rows count = fault_if (nat_lt max_rows count) faults.TableFull

-- whether the table has no room for so many rows more
abbrev pub no_room : StoredTable → ℕ → Option Fault
no_room t added = too_many t.max_rows (length (table_rows t) + added)

-- so many rows more can be put into it
abbrev pub HasRoom : StoredTable → ℕ → Type 0
HasRoom t added = length (table_rows t) + added ≤ t.max_rows

-- nothing is too wide in the assignments at a row
abbrev pub AreNarrowSets : List Assignment → Row → Type 0
AreNarrowSets assignments row = AllByRecursion (λ a. IsNarrowAt a.value row) assignments

-- nothing is too wide in WHERE and SET at each of the rows
pub record CanWorkOut (assignments : List Assignment) (condition : Option Cond) (rows : List Row) : Type 0 where
  pub narrow : AllByRecursion (IsNarrowIn condition) rows
  pub sets : AllByRecursion (AreNarrowSets assignments) rows

-- why the values that one assignment gives in these rows may not be stored
abbrev pub one_fault : List ColumnDef → Assignment → List Row → Option Fault
one_fault columns assignment rows = first_fault (value_checks columns rows assignment)

-- and those of several assignments
abbrev pub values_fault : List ColumnDef → List Assignment → List Row → Option Fault
values_fault columns assignments rows = first_fault (flat_map (value_checks columns rows) assignments)

-- why the values that the chosen rows get may not be stored
abbrev pub value_fault : List ColumnDef → List Assignment → Option Cond → List Row → Option Fault
value_fault columns assignments condition rows = first_fault (image_checks columns assignments condition rows)

-- those of the rows of a table that WHERE keeps
abbrev pub chosen_fault : StoredTable → List Assignment → Option Cond → Option Fault
chosen_fault t assignments condition = value_fault t.columns assignments condition (table_rows t)

-- and those of its rows at these places
abbrev pub found_fault : StoredTable → List Assignment → List ℕ → Option Fault
found_fault t assignments places = values_fault t.columns assignments (rows_found t places)

-- where the images of the chosen rows may be stored, they fit the columns
abbrev pub DoFit : List ColumnDef → List Assignment → Option Cond → List Row → Type 0
DoFit columns assignments condition rows =
    value_fault columns assignments condition rows ≡ None → AllByRecursion (λ row. FitsColumns columns (image_of assignments row)) (chosen condition rows)

-- if WHERE found the places, the values that the rows get which it keeps are checked
abbrev pub ChecksFound : {X : Type 0} → List Assignment → List ℕ → StoredTable → Result X TableFault → Type 0
ChecksFound assignments places t result =
    (condition : Option Cond) → IsFound condition t places → IsChecked (chosen_fault t assignments condition) result

-- copies of the rows at some places, and their images
pub record AreImages (assignments : List Assignment) (rows : List Row) (exchange : Vec Row Global × Vec Row Global) : Type 0 where
  pub gone : exchange.0.items ≡ rows
  pub images : exchange.1.items ≡ map (image_of assignments) rows
