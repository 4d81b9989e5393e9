-- UPDATE with its names resolved.
use Rattle.std.specs.Prelude.{◌≡◌, List, [], Option, Result}
use Rattle.cq_sql_language.specs.declared.statement.SetClause.{SetClause}
use Rattle.cq_sql_language.specs.Written.{Written}
use Rattle.cq_model.specs.declared.assignment.Assignment.{Assignment}
use Rattle.cq_model.specs.Expr.{Cond}
use Rattle.cq_binder_rules.specs.declared.fault.Fault.{Fault}
use Rattle.cq_binder_rules.specs.Sets.{bound_set, bound_sets, bound_where}
use Rattle.cq_binder_rules.specs.Typing.{Scope}
use Rattle.cq_binder_rules.specs.UpdateChecks.{set_check, set_checks, update_walk}
use Rattle.cq_binder_rules.specs.Scopes.{from_table, scope_of}
use Rattle.cq_model_state.specs.State.{TableOf}
use Rattle.cq_binder_queries.specs.declared.catalog.TableEntry.{TableEntry}
use Rattle.cq_binder_queries.specs.Catalog.{Describes}
use Rattle.cq_binder_queries.specs.Conditions.{BindsWhere}
use Rattle.cq_binder_queries.specs.Walk.{Walked, WalksTo}

-- an assignment behind those before it is bound where it has no fault
abbrev pub BindsSet : Scope → List SetClause → SetClause → Result Assignment Fault → Type 0
BindsSet s before a result = WalksTo (set_check s before a) (bound_set s a) result

-- SET is bound where no assignment has a fault
abbrev pub BindsSets : Scope → List SetClause → Result (List Assignment) Fault → Type 0
BindsSets s sets result = WalksTo (set_checks s [] sets) (bound_sets s sets) result

-- SET and WHERE by the places of their columns
abbrev pub AreBoundSets : Scope → List SetClause → Option Written → (List Assignment × Option Cond) → Type 0
AreBoundSets s sets condition parts = (parts.0 ≡ bound_sets s sets) × (parts.1 ≡ bound_where s condition)

-- an UPDATE over its columns is bound where its walk has no fault
abbrev pub BindsUpdate : Scope → List SetClause → Option Written → Result (List Assignment × Option Cond) Fault → Type 0
BindsUpdate s sets condition result = Walked (update_walk condition sets s) (AreBoundSets s sets condition) result

-- and so it is over the table that an entry describes
abbrev pub BindsUpdateOf : TableEntry → List SetClause → Option Written → Result (List Assignment × Option Cond) Fault → Type 0
BindsUpdateOf e sets condition result = (t : TableOf) → Describes e t → BindsUpdate (scope_of (from_table t)) sets condition result

-- so is WHERE
abbrev pub BindsWhereOf : TableEntry → Option Written → Result (Option Cond) Fault → Type 0
BindsWhereOf e condition result = (t : TableOf) → Describes e t → BindsWhere (scope_of (from_table t)) condition result
