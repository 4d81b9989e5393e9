-- What commands are that were bound.
use Rattle.std.specs.Prelude.{◌≡◌, List, None}
use Rattle.cq_values.specs.declared.column.ColumnDef.{ColumnDef}
use Rattle.cq_sql_language.specs.declared.statement.Constant.{Constant}
use Rattle.cq_binder_rules.specs.Bound.{row_of}
use Rattle.cq_binder_rules.specs.Checks.{first_fault}
use Rattle.cq_binder_rules.specs.RowChecks.{row_checks}
use Rattle.cq_model_state.specs.Fitting.{FitsColumns}

-- the row of constants whose checks have no fault fits the columns
abbrev pub CheckedRowsFit : Type 0
CheckedRowsFit = (columns : List ColumnDef) (row : List Constant) → first_fault (row_checks columns row) ≡ None → FitsColumns columns (row_of row)
