-- What is asked of a name, of WHERE, of GROUP BY and of an item over what FROM has joined (docs/LANGUAGE.md, Refusals).
use Rattle.std.specs.Prelude.{ℕ, List, [], ◌∷◌, ◌++◌, map, length, Option, Some, None, is_none}
use Rattle.cq_sql_language.specs.declared.written.ColumnName.{ColumnName}
use Rattle.cq_values.specs.declared.column.ColumnDef.{ColumnDef}
use Rattle.cq_sql_language.specs.Written.{Written}
use Rattle.cq_binder_rules.specs.declared.fault.Fault.{Fault}
use Rattle.cq_binder_rules.specs.declared.fault.Fault.TheVariants.{UnknownColumn}
use Rattle.cq_binder_rules.specs.Scopes.{column_place}
use Rattle.cq_binder_rules.specs.Typing.{Scope, ScopeColumn, condition_fault, fault_in, kept_fault, resolved, typed, value_fault}
use Rattle.cq_binder_rules.specs.Checks.{fault_if, too_long}

-- the name of a column
abbrev pub name_check : List ColumnDef → List ℕ → Option Fault
name_check columns name = fault_if (is_none (column_place columns name)) UnknownColumn

-- a column of GROUP BY
abbrev pub group_check : List ScopeColumn → ColumnName → Option Fault
group_check columns c = fault_in (resolved columns c)

-- GROUP BY: each column, then the list
abbrev pub group_checks : List ScopeColumn → List ColumnName → List (Option Fault)
group_checks columns group = map (group_check columns) group ++ too_long (length group) ∷ []

-- WHERE and HAVING: the walk through it, and then that it is a condition
abbrev pub where_check : Scope → Option Written → Option Fault
where_check s None = None
where_check s (Some condition) = condition_fault (typed s condition)

-- an item: the walk through it, and then that it is a value
abbrev pub value_check : Scope → Written → Option Fault
value_check s w = value_fault (typed s w)

-- an item of a view: the walk through it, and then that it is a value with a type
abbrev pub kept_check : Scope → Written → Option Fault
kept_check s w = kept_fault (typed s w)
