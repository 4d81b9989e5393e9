-- What stands behind FROM in a query, with its names resolved.
use Rattle.std.specs.Prelude.{◌≡◌, List, [], ◌∷◌, ◌++◌, map, length, Option, Result}
use Rattle.cq_sql_language.specs.declared.statement.Select.{Select}
use Rattle.cq_model.specs.declared.query.Aggregate.{Aggregate}
use Rattle.cq_model.specs.declared.query.Query.{Query}
use Rattle.cq_model.specs.Expr.{Cond}
use Rattle.cq_binder_rules.specs.declared.fault.Fault.{Fault}
use Rattle.cq_binder_rules.specs.Checks.{too_long}
use Rattle.cq_binder_rules.specs.From.{From}
use Rattle.cq_binder_rules.specs.Grouping.{item_scope}
use Rattle.cq_binder_rules.specs.Headers.{shown_by}
use Rattle.cq_binder_rules.specs.Places.{group_places}
use Rattle.cq_binder_rules.specs.Queries.{bound_shape, item_aggregates, placed_items, query_over}
use Rattle.cq_binder_rules.specs.Scopes.{of_rows}
use Rattle.cq_binder_rules.specs.Sets.{bound_where}
use Rattle.cq_binder_rules.specs.SourceChecks.{group_checks, where_check}
use Rattle.cq_binder_rules.specs.Typing.{Scope, ScopeColumn}
use Rattle.cq_binder_queries.specs.declared.items.Purpose.{Purpose}
use Rattle.cq_binder_queries.specs.declared.parts.BoundClauses.{BoundClauses}
use Rattle.cq_binder_queries.specs.declared.parts.BoundParts.{BoundParts}
use Rattle.cq_binder_queries.specs.Grouping.{IsHaving}
use Rattle.cq_binder_queries.specs.Items.{item_check}
use Rattle.cq_binder_queries.specs.Walk.{Walked}

-- ---- WHERE, GROUP BY and the items
-- they are bound over rows with these columns
pub record AreBoundClauses (columns : List ScopeColumn) (q : Select) (clauses : BoundClauses) : Type 0 where
  pub filter : clauses.filter ≡ bound_where (of_rows columns) q.condition
  pub keys : clauses.keys ≡ group_places columns q.group
  pub aggregates : clauses.aggregates ≡ item_aggregates (item_scope q columns) q.items
  pub items : clauses.items ≡ placed_items (item_scope q columns) [] (shown_by q.items)

-- the walk through them
abbrev pub clauses_walk : Purpose → Select → List ScopeColumn → List (Option Fault)
clauses_walk purpose q columns =
    where_check (of_rows columns) q.condition
    ∷ group_checks columns q.group
    ++ map (item_check purpose (item_scope q columns)) (shown_by q.items)

-- they are bound where none of them has a fault
abbrev pub BindsClauses : Purpose → List ScopeColumn → Select → Result BoundClauses Fault → Type 0
BindsClauses purpose columns q result = Walked (clauses_walk purpose q columns) (AreBoundClauses columns q) result

-- ---- The number of the items, and HAVING
-- the walk through them, where HAVING reads this
abbrev pub end_walk : Scope → Select → List (Option Fault)
end_walk s q = too_long (length q.items) ∷ where_check s q.having ∷ []

-- HAVING is bound where neither has a fault
abbrev pub BindsEnd : Scope → List Aggregate → List Aggregate → Select → Result (Option Cond) Fault → Type 0
BindsEnd s before after q result = Walked (end_walk s q) (IsHaving s before after q.having) result

-- ---- All parts
-- the parts of a query over rows with these columns: WHERE, how rows become the rows that items read, and the items
pub record AreBoundParts (columns : List ScopeColumn) (q : Select) (parts : BoundParts) : Type 0 where
  pub filter : parts.filter ≡ bound_where (of_rows columns) q.condition
  pub shape : parts.shape ≡ bound_shape q columns
  pub items : parts.items ≡ placed_items (item_scope q columns) [] (shown_by q.items)

-- behind its clauses a query is bound where its end has no fault
abbrev pub EndsParts : List ScopeColumn → Select → Result BoundParts Fault → Type 0
EndsParts columns q result = Walked (end_walk (item_scope q columns) q) (AreBoundParts columns q) result

-- the query that parts make over what FROM has joined
abbrev pub query_of : From → Select → BoundParts → Query
query_of from q parts = query_over from parts.filter parts.shape parts.items q.is_distinct
