-- What reading a file for a table gives.
use Rattle.std.specs.Prelude.{◌≡◌, ◌++◌, ℕ, List, [], ◌∷◌, Result, Ok, Err}
use Rattle.cq_values.specs.Lent.{owned}
use Rattle.cq_values.specs.Value.{Row}
use Rattle.cq_values.specs.declared.column.ColumnDef.{ColumnDef}
use Rattle.cq_values.specs.declared.lent.Lent.{Lent}
use Rattle.cq_values.specs.declared.value.Value.{Value}
use Rattle.cq_writestore_rows.specs.Filling.{Filled, with_value}
use Rattle.cq_binder_rules.specs.declared.fault.Fault.{Fault}
use Rattle.cq_binder_rules.specs.declared.fault.Fault.TheVariants as faults
use Rattle.cq_binder_rules.specs.Records.{file_rows}

-- the result is this one; memory may be wanting
abbrev pub Gives : {A : Type 0} → Result A Fault → Result A Fault → Type 0
Gives wanted (Err faults.Memory) = Unit {0}
Gives wanted result = wanted ≡ result

-- the rows of the file or its refusal; memory may be wanting
abbrev pub ReadsRows : List ColumnDef → List ℕ → Result (List Row) Fault → Type 0
ReadsRows columns bytes result = Gives (file_rows columns bytes) result

-- the value that is lent, or the same refusal
abbrev pub value_in : Result Lent Fault → Result Value Fault
value_in (Ok lent) = Ok (owned lent)
value_in (Err f) = Err f

-- the value that is wanted stands behind those of the row that is begun
pub record AddsValue (wanted : Result Value Fault) (old new : Filled) : Type 0 where
  pub value : Value
  pub is : wanted ≡ Ok value
  pub put : new ≡ with_value value old

-- the row that is wanted stands behind the others, and none is begun
pub record AddsRow (wanted : Result Row Fault) (old new : Filled) : Type 0 where
  pub row : Row
  pub is : wanted ≡ Ok row
  pub put : new ≡ record { rows = old.rows ++ row ∷ []; begun = []; width = old.width }
