-- Constants that become values.
use Rattle.std.specs.Prelude.{[], ◌∷◌, Result}
use Rattle.cq_values.specs.declared.column.ColumnDef.{ColumnDef}
use Rattle.cq_values.specs.declared.value.Value.{Value}
use Rattle.cq_sql_language.specs.declared.statement.Constant.{Constant}
use Rattle.cq_binder_rules.specs.declared.fault.Fault.{Fault}
use Rattle.cq_binder_rules.specs.Bound.{constant_value}
use Rattle.cq_binder_rules.specs.RowChecks.{constant_check}
use Rattle.cq_binder_queries.specs.Walk.{WalksTo}

-- a constant becomes its value where it can stand in the column
abbrev pub BindsConstant : ColumnDef → Constant → Result Value Fault → Type 0
BindsConstant column constant result = WalksTo (constant_check column constant ∷ []) (constant_value constant) result
