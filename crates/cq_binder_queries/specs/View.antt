-- Views with their names resolved.
use Rattle.std.specs.Prelude.{◌≡◌, ℕ, List, [], ◌∷◌, Option, Some, option_map, Result}
use Rattle.cq_values.specs.declared.column.ColumnDef.{ColumnDef}
use Rattle.cq_sql_language.specs.declared.statement.Select.{Select}
use Rattle.cq_model_state.specs.State.{State}
use Rattle.cq_binder_rules.specs.declared.bound.Bound.{Bound}
use Rattle.cq_binder_rules.specs.declared.fault.Fault.{Fault}
use Rattle.cq_binder_rules.specs.declared.fault.Fault.TheVariants.{NameTaken}
use Rattle.cq_binder_rules.specs.Bound.{bound_view, item_columns, standing}
use Rattle.cq_binder_rules.specs.Checks.{fault_if}
use Rattle.cq_binder_rules.specs.From.{From, view_walk}
use Rattle.cq_binder_rules.specs.Grouping.{item_scope}
use Rattle.cq_binder_rules.specs.Headers.{header}
use Rattle.cq_binder_rules.specs.Typing.{Scope, ScopeColumn}
use Rattle.cq_binder_rules.specs.ViewChecks.{no_clause, query_checks, repeats, view_select_checks}
use Rattle.cq_binder_queries.specs.declared.viewing.BoundView.{BoundView}
use Rattle.cq_binder_queries.specs.Parts.{AreBoundParts}
use Rattle.cq_binder_queries.specs.Walk.{Walked, WalksTo}

-- the names of all items, then DISTINCT
abbrev pub name_walk : Select → List (Option Fault)
name_walk v = fault_if (repeats [] (header 1 v.items)) NameTaken ∷ no_clause v.is_distinct ∷ []

-- the items show their columns over what they read, where neither has a fault
abbrev pub ShowsColumns : Scope → Select → Result (List ColumnDef) Fault → Type 0
ShowsColumns s v result = WalksTo (name_walk v) (item_columns s 1 v.items) result

-- what a view over rows with these columns shows, and the parts of its query
pub record IsBoundView (columns : List ScopeColumn) (v : Select) (shown : BoundView) : Type 0 where
  pub columns_of : shown.columns ≡ item_columns (item_scope v columns) 1 v.items
  pub parts : AreBoundParts columns v shown.parts

-- a view over rows with these columns is bound where its query has no fault
abbrev pub BindsViewParts : List ScopeColumn → Select → Result BoundView Fault → Type 0
BindsViewParts columns v result = Walked (query_checks v columns) (IsBoundView columns v) result

-- a view becomes its command over what FROM has joined
abbrev pub BindsViewOver : From → List ℕ → Select → Result Bound Fault → Type 0
BindsViewOver from name v result = WalksTo (query_checks v from.columns) (bound_view name v from) result

-- a view becomes its command where the walk through its query has no fault
abbrev pub BindsView : State → List ℕ → Select → Result Bound Fault → Type 0
BindsView s name v result =
    Walked (view_select_checks v (view_walk s v)) (λ command. option_map (bound_view name v) (standing (view_walk s v)) ≡ Some command) result
