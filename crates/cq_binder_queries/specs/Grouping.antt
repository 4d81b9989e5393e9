-- GROUP BY and HAVING with their names resolved.
use Rattle.std.specs.Prelude.{◌≡◌, ℕ, List, [], ◌∷◌, map, Option, option_map, Result}
use Rattle.cq_sql_language.specs.declared.statement.Select.{Select}
use Rattle.cq_sql_language.specs.declared.written.ColumnName.{ColumnName}
use Rattle.cq_sql_language.specs.Written.{Written}
use Rattle.cq_model.specs.declared.query.Aggregate.{Aggregate}
use Rattle.cq_model.specs.declared.query.Shape.{Shape}
use Rattle.cq_model.specs.Expr.{Cond}
use Rattle.cq_binder_rules.specs.declared.fault.Fault.{Fault}
use Rattle.cq_binder_rules.specs.Grouping.{item_scope}
use Rattle.cq_binder_rules.specs.Placed.{placed_cond}
use Rattle.cq_binder_rules.specs.Places.{group_places}
use Rattle.cq_binder_rules.specs.Queries.{bound_group, bound_shape, having_aggregates, item_aggregates}
use Rattle.cq_binder_rules.specs.SourceChecks.{group_check, where_check}
use Rattle.cq_binder_rules.specs.Typing.{Scope, ScopeColumn}
use Rattle.cq_binder_queries.specs.Walk.{Walked, WalksTo}

-- the columns behind GROUP BY are looked up, and where they stand
abbrev pub FindsGroup : List ScopeColumn → List ColumnName → Result (List ℕ) Fault → Type 0
FindsGroup columns names result = WalksTo (map (group_check columns) names) (group_places columns names) result

-- a condition is HAVING behind these aggregates, and its own are put behind them
pub record IsHaving (s : Scope) (before after : List Aggregate) (having : Option Written) (condition : Option Cond) : Type 0 where
  pub is : condition ≡ option_map (placed_cond s before) having
  pub aggregates : after ≡ having_aggregates s before having

-- HAVING over groups becomes its condition where it has no fault
abbrev pub BindsHaving : Scope → List Aggregate → List Aggregate → Option Written → Result (Option Cond) Fault → Type 0
BindsHaving s before after having result = Walked (where_check s having ∷ []) (IsHaving s before after having) result

-- where GROUP BY has these places over rows with some columns, this is the key of a group there
abbrev pub IsKeyOf : List ColumnName → List ℕ → Option (List ℕ) → Type 0
IsKeyOf group keys key = (columns : List ScopeColumn) → keys ≡ group_places columns group → key ≡ bound_group columns group

-- where these are the parts of a query's groups over rows with some columns, this is its shape there
abbrev pub IsShapeOf : Select → List ℕ → List Aggregate → Option Cond → Shape → Type 0
IsShapeOf q keys aggregates having shape =
    (columns : List ScopeColumn) (before : List Aggregate)
    → keys ≡ group_places columns q.group → before ≡ item_aggregates (item_scope q columns) q.items
    → IsHaving (item_scope q columns) before aggregates q.having having → shape ≡ bound_shape q columns
