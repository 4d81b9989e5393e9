-- What INSERT and DELETE leave of the tables, and the room that INSERT asks for.
use Rattle.std.specs.Prelude.{◌≡◌, ◌+◌, ℕ, Bool, List, ◌++◌, length, Option, None, Result, Ok, Err}
use Rattle.std.specs.Global.{Vec}
use Rattle.std.specs.List.{AllByRecursion}
use Rattle.cq_values.specs.Value.{Row}
use Rattle.cq_model.specs.Expr.{Cond}
use Rattle.cq_model.specs.Width.{IsNarrowIn}
use Rattle.cq_model.specs.Write.{chosen, left_by, updated}
use Rattle.cq_model_state.specs.Fitting.{FitsColumns}
use Rattle.cq_binder_rules.specs.declared.fault.Fault.{Fault}
use Rattle.cq_binder_rules.specs.Checks.{MayRefuse}
use Rattle.cq_model.specs.declared.assignment.Assignment.{Assignment}
use Rattle.cq_model_state.specs.State.{ChangeOf, TableOf, columns_in, holding, rows_in, with_rows}
use Rattle.cq_table.specs.Checks.{too_many}
use Rattle.cq_engine_tables.specs.Chosen.{IsChosen}
use Rattle.cq_engine_tables.specs.HeldTables.{HeldTable, tables_of}
use Rattle.cq_engine_tables.specs.Tables.{no_room_for}
use Rattle.cq_engine_writes.specs.Changing.{Tells}

-- whether the rows are too many for the table of a number
abbrev pub room_for : ℕ → List TableOf → ℕ → List Row → Option Fault
room_for max_rows tables n rows = too_many max_rows (length (rows_in tables n) + length rows)

-- the tables with the rows put into the table of a number
abbrev pub inserted_into : ℕ → List Row → List TableOf → List TableOf
inserted_into n rows tables = with_rows n (rows_in tables n ++ rows) tables

-- the rows that WHERE keeps in the table of a number
abbrev pub chosen_in : ℕ → Option Cond → List TableOf → List Row
chosen_in n condition tables = chosen condition (rows_in tables n)

-- the tables without the rows that WHERE keeps in the table of a number
abbrev pub deleted_from : ℕ → Option Cond → List TableOf → List TableOf
deleted_from n condition tables = with_rows n (left_by condition (rows_in tables n)) tables

-- rows are put into a table, where there is room for them
abbrev pub InsertsRows : {X : Type 0} → ℕ → List Row → TableOf → Result X Fault → TableOf → Type 0
InsertsRows max_rows rows old (Ok x) new = (no_room_for max_rows old rows ≡ None) × (new ≡ holding (old.rows ++ rows) old)
InsertsRows max_rows rows old (Err f) new = MayRefuse (no_room_for max_rows old rows) f

-- a table has those of its rows that WHERE does not keep
abbrev pub DeletesRows : Option Cond → TableOf → TableOf → Type 0
DeletesRows condition old new = new ≡ holding (left_by condition old.rows) old

-- the change of a DELETE from a table is told where it is asked for
abbrev pub TellsLeft : Bool → Option Cond → TableOf → Option ChangeOf → Type 0
TellsLeft asked condition t told = Tells asked t.number t.rows (left_by condition t.rows) told

-- so it is if WHERE chose the places
abbrev pub TellsChosen : Bool → List ℕ → HeldTable → Option ChangeOf → Type 0
TellsChosen asked places t told = (condition : Option Cond) → IsChosen condition t places → TellsLeft asked condition t.is told

-- rows are put into the table of a number, where there is room for them
abbrev pub Inserts : {X : Type 0} → ℕ → ℕ → List Row → List TableOf → Result X Fault → List TableOf → Type 0
Inserts max_rows n rows old (Ok x) new = (room_for max_rows old n rows ≡ None) × (new ≡ inserted_into n rows old)
Inserts max_rows n rows old (Err f) new = MayRefuse (room_for max_rows old n rows) f

-- ---- Tables as they are held
-- rows fit the columns of the table of a number
abbrev pub FitTable : ℕ → Vec HeldTable → List Row → Type 0
FitTable n tables rows = AllByRecursion (FitsColumns (columns_in (tables_of tables.items) n)) rows

-- nothing is too wide in WHERE at the rows of the table of a number
abbrev pub IsNarrowFor : ℕ → Option Cond → Vec HeldTable → Type 0
IsNarrowFor n condition tables = AllByRecursion (IsNarrowIn condition) (rows_in (tables_of tables.items) n)

-- so it is where the tables are held
abbrev pub InsertsHeld : {X : Type 0} → ℕ → ℕ → List Row → Vec HeldTable → Result X Fault → Vec HeldTable → Type 0
InsertsHeld max_rows n rows old result new = Inserts max_rows n rows (tables_of old.items) result (tables_of new.items)

-- how many rows WHERE keeps in the table of a number
abbrev pub chosen_count : ℕ → Option Cond → Vec HeldTable → ℕ
chosen_count n condition tables = length (chosen_in n condition (tables_of tables.items))

-- those rows are deleted
abbrev pub DeletesFrom : ℕ → Option Cond → Vec HeldTable → Vec HeldTable → Type 0
DeletesFrom n condition old new = tables_of new.items ≡ deleted_from n condition (tables_of old.items)

-- the change of an INSERT is told
abbrev pub TellsInserted : Bool → ℕ → List Row → Vec HeldTable → Option ChangeOf → Type 0
TellsInserted asked n rows old told = Tells asked n (rows_in (tables_of old.items) n) (rows_in (tables_of old.items) n ++ rows) told

-- and that of a DELETE
abbrev pub TellsDeleted : Bool → ℕ → Option Cond → Vec HeldTable → Option ChangeOf → Type 0
TellsDeleted asked n condition old told = Tells asked n (rows_in (tables_of old.items) n) (left_by condition (rows_in (tables_of old.items) n)) told

-- and that of an UPDATE
abbrev pub TellsUpdated : Bool → ℕ → List Assignment → Option Cond → Vec HeldTable → Option ChangeOf → Type 0
TellsUpdated asked n assignments condition old told = Tells asked n (rows_in (tables_of old.items) n) (updated assignments condition (rows_in (tables_of old.items) n)) told
