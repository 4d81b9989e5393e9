-- UPDATE on rows that it was bound to: what is known of it, and what it leaves.
use Rattle.std.specs.Prelude.{◌≡◌, ◌*◌, ℕ, Bool, List, length, map, slice_index_or, Option, None, Result, Ok, Err, Vec}
use Rattle.std.specs.Global.{Global}
use Rattle.std.specs.List.{AllByRecursion}
use Rattle.cq_values.specs.declared.column.ColumnDef.{ColumnDef}
use Rattle.cq_values.specs.declared.ty.Ty.{Ty}
use Rattle.cq_values.specs.declared.ty.Ty.TheVariants as types
use Rattle.cq_values.specs.Value.{Row}
use Rattle.cq_model.specs.declared.assignment.Assignment.{Assignment}
use Rattle.cq_model.specs.Eval.{eval}
use Rattle.cq_model.specs.Expr.{Cond}
use Rattle.cq_model.specs.Width.{IsNarrowAt, IsNarrowIn}
use Rattle.cq_model.specs.Write.{chosen, image_of, updated}
use Rattle.cq_binder_rules.specs.declared.fault.Fault.{Fault}
use Rattle.cq_binder_rules.specs.Checks.{MayRefuse}
use Rattle.cq_binder_expressions.specs.Types.{IsOf}
use Rattle.cq_model_state.specs.State.{ChangeOf, TableOf, columns_in, holding, rows_in, with_rows}
use Rattle.cq_engine_writes.specs.Changing.{Tells, TellsAtMost}
use Rattle.cq_table.specs.Checks.{value_fault}
use Rattle.cq_table.specs.Found.{found_rows}
use Rattle.cq_engine_tables.specs.Chosen.{IsChosen, stored_of}
use Rattle.cq_engine_tables.specs.HeldTables.{HeldTable, tables_of}
use Rattle.cq_engine_tables.specs.Tables.{value_fault_of}

-- the type of the column at a place, which is there
abbrev pub declared_type : List ColumnDef → ℕ → Ty
declared_type columns place = slice_index_or (map (λ c. c.ty) columns) place types.Integer

-- nothing in an assignment is too wide at a row, and its value is of the column's type
pub record CanSet (columns : List ColumnDef) (row : Row) (a : Assignment) : Type 0 where
  pub narrow : IsNarrowAt a.value row
  pub typed : IsOf (declared_type columns a.column) (eval a.value row)

-- so it is with all assignments
abbrev pub CanSetAll : List ColumnDef → List Assignment → Row → Type 0
CanSetAll columns assignments row = AllByRecursion (CanSet columns row) assignments

-- WHERE and SET can be worked out on each of the rows
pub record CanUpdate (columns : List ColumnDef) (assignments : List Assignment) (condition : Option Cond) (rows : List Row) : Type 0 where
  pub narrow : AllByRecursion (IsNarrowIn condition) rows
  pub sets : AllByRecursion (CanSetAll columns assignments) rows

-- so it is in the table of a number
abbrev pub CanUpdateIn : List TableOf → ℕ → List Assignment → Option Cond → Type 0
CanUpdateIn tables n assignments condition = CanUpdate (columns_in tables n) assignments condition (rows_in tables n)

-- each row that WHERE chooses is replaced by its image, where the images may be stored, and the chosen ones are counted
abbrev pub UpdatesRows : {X : Type 0} → List Assignment → Option Cond → TableOf → Result (ℕ × X) Fault → TableOf → Type 0
UpdatesRows assignments condition old (Ok done) new =
    (value_fault_of old assignments condition ≡ None) × (done.0 ≡ length (chosen condition old.rows))
    × (new ≡ holding (updated assignments condition old.rows) old)
UpdatesRows assignments condition old (Err f) new = MayRefuse (value_fault_of old assignments condition) f

-- the tables with the chosen rows of the table of a number replaced
abbrev pub updated_in : ℕ → List Assignment → Option Cond → List TableOf → List TableOf
updated_in n assignments condition tables = with_rows n (updated assignments condition (rows_in tables n)) tables

-- the same of the table of a number
abbrev pub value_fault_in : List TableOf → ℕ → List Assignment → Option Cond → Option Fault
value_fault_in tables n assignments condition = value_fault (columns_in tables n) assignments condition (rows_in tables n)

-- the rows of the table of a number are updated
abbrev pub Updates : {X : Type 0} → ℕ → List Assignment → Option Cond → List TableOf → Result (ℕ × X) Fault → List TableOf → Type 0
Updates n assignments condition old (Ok done) new =
    (value_fault_in old n assignments condition ≡ None) × (done.0 ≡ length (chosen condition (rows_in old n)))
    × (new ≡ updated_in n assignments condition old)
Updates n assignments condition old (Err f) new = MayRefuse (value_fault_in old n assignments condition) f

-- the change of an UPDATE of a table is told where it is asked for
abbrev pub TellsImages : Bool → List Assignment → Option Cond → TableOf → Option ChangeOf → Type 0
TellsImages asked assignments condition t told = Tells asked t.number t.rows (updated assignments condition t.rows) told

-- the chosen rows are found, their images are worked out and may be stored, and the change is told where it is asked for
pub record IsPrepared (asked : Bool) (t : HeldTable) (assignments : List Assignment) (condition : Option Cond) (places : List ℕ) (come : List Row) (change : Option ChangeOf) : Type 0 where
  pub free : value_fault_of t.is assignments condition ≡ None
  pub found : IsChosen condition t places
  pub images : come ≡ map (image_of assignments) (found_rows (stored_of t) places)
  pub tells : TellsImages asked assignments condition t.is change
  pub few : TellsAtMost (2 * length places) change

-- the places, the images and the change, as they are kept until then
abbrev pub Prepares : Bool → HeldTable → List Assignment → Option Cond → (List ℕ × Vec Row Global × Option ChangeOf) → Type 0
Prepares asked t assignments condition prepared = IsPrepared asked t assignments condition prepared.0 prepared.1.items prepared.2

-- the update of a table may be refused with this fault
abbrev pub RefusesUpdate : HeldTable → List Assignment → Option Cond → Fault → Type 0
RefusesUpdate t assignments condition f = MayRefuse (value_fault_of t.is assignments condition) f

-- the rows of the table of a number are updated where it is held
abbrev pub UpdatesHeld : {X : Type 0} → ℕ → List Assignment → Option Cond → Vec HeldTable Global → Result (ℕ × X) Fault → Vec HeldTable Global → Type 0
UpdatesHeld n assignments condition old result new = Updates n assignments condition (tables_of old.items) result (tables_of new.items)
