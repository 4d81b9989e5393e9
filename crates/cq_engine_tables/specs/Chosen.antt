-- Rows of a table that WHERE keeps, found where they are stored, and what becomes of them.
use Rattle.std.specs.Prelude.{◌≡◌, ℕ, List, ◌++◌, length, Option, Result}
use Rattle.cq_values.specs.Value.{Row}
use Rattle.cq_model.specs.declared.assignment.Assignment.{Assignment}
use Rattle.cq_model.specs.Expr.{Cond}
use Rattle.cq_model.specs.Write.{chosen, left_by}
use Rattle.cq_model_state.specs.State.{holding}
use Rattle.cq_segments_pieces.specs.Marked.{MarkedRow}
use Rattle.cq_segments_pieces.specs.Pieces.{joined}
use Rattle.cq_table.specs.Checks.{IsChecked}
use Rattle.cq_table.specs.declared.fault.TableFault.{TableFault}
use Rattle.cq_table.specs.Found.{AreLiveAt, AreThere, found_rows, where_places}
use Rattle.cq_table.specs.Table.{SameRows}
use Rattle.cq_engine_tables.specs.HeldTables.{HeldTable}
use Rattle.cq_engine_tables.specs.Tables.{value_fault_of}

-- all stored rows of a table: those of its segments, and then those of its write store
abbrev pub stored_of : HeldTable → List MarkedRow
stored_of t = joined t.segments ++ t.written

-- the rows at some places of them
abbrev pub rows_chosen : HeldTable → List ℕ → List Row
rows_chosen t places = found_rows (stored_of t) places

-- the places of all live rows that WHERE keeps, among all stored rows
pub record IsChosen (condition : Option Cond) (t : HeldTable) (places : List ℕ) : Type 0 where
  pub found : places ≡ where_places 0 condition (stored_of t)
  pub live : AreLiveAt places (stored_of t)
  pub there : AreThere places (stored_of t)
  pub picks : SameRows (found_rows (stored_of t) places) (chosen condition t.is.rows)
  pub count : length places ≡ length (chosen condition t.is.rows)

-- if WHERE chose the places, the table has these rows in place of those that it keeps
abbrev pub LeavesChosen : List ℕ → List Row → HeldTable → HeldTable → Type 0
LeavesChosen places rows old new =
    (condition : Option Cond) → IsChosen condition old places → new.is ≡ holding (left_by condition old.is.rows ++ rows) old.is

-- if WHERE chose the places, the values that the rows get which it keeps are checked
abbrev pub ChecksChosen : {X : Type 0} → List Assignment → List ℕ → HeldTable → Result X TableFault → Type 0
ChecksChosen assignments places t result =
    (condition : Option Cond) → IsChosen condition t places → IsChecked (value_fault_of t.is assignments condition) result
