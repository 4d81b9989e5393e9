-- What a query says over what FROM has joined, once its names are resolved (ISO 9075-2, 7.16).
use Rattle.std.specs.Prelude.{ℕ, Bool, if◌then◌else◌, List, [], ◌∷◌, fold, Option, Some, None, option_map}
use Rattle.cq_sql_language.specs.declared.statement.Select.{Select}
use Rattle.cq_sql_language.specs.declared.statement.SelectItem.{SelectItem}
use Rattle.cq_sql_language.specs.declared.written.ColumnName.{ColumnName}
use Rattle.cq_sql_language.specs.Written.{Written}
use Rattle.cq_model.specs.declared.query.Aggregate.{Aggregate}
use Rattle.cq_model.specs.declared.query.Query.{Query}
use Rattle.cq_model.specs.declared.query.Shape.{Shape}
use Rattle.cq_model.specs.declared.query.Shape.TheVariants.{Plain, Grouped}
use Rattle.cq_model.specs.Expr.{Cond, Expr}
use Rattle.cq_binder_rules.specs.From.{From}
use Rattle.cq_binder_rules.specs.Grouping.{is_empty, is_grouped, item_scope}
use Rattle.cq_binder_rules.specs.Headers.{shown_by}
use Rattle.cq_binder_rules.specs.Placed.{placed_cond, placed_expr, with_aggregates}
use Rattle.cq_binder_rules.specs.Places.{group_places}
use Rattle.cq_binder_rules.specs.Scopes.{in_groups, of_rows}
use Rattle.cq_binder_rules.specs.Sets.{bound_where}
use Rattle.cq_binder_rules.specs.Typing.{Scope, ScopeColumn}

-- what items show, each behind the aggregates of those before it
abbrev pub placed_items : Scope → List Aggregate → List Written → List Expr
placed_items s before [] = []
placed_items s before (w ∷ ws) = placed_expr s before w ∷ placed_items s (with_aggregates s before w) ws

-- the aggregates that stand in the items
abbrev pub item_aggregates : Scope → List SelectItem → List Aggregate
item_aggregates s items = fold (with_aggregates s) [] (shown_by items)

-- these aggregates, and behind them those that stand in HAVING
abbrev pub having_aggregates : Scope → List Aggregate → Option Written → List Aggregate
having_aggregates s before None = before
having_aggregates s before (Some w) = with_aggregates s before w

-- where the columns of GROUP BY stand, where it is there
abbrev pub bound_group : List ScopeColumn → List ColumnName → Option (List ℕ)
bound_group columns group = if is_empty group then None else Some (group_places columns group)

-- groups of joined rows: their keys, what the items and HAVING tell of each group, and which groups HAVING keeps
abbrev pub grouped_shape : Select → List ScopeColumn → Shape
grouped_shape q columns =
    let s = in_groups q.group columns in
    let before = item_aggregates s q.items in
    Grouped (bound_group columns q.group) (having_aggregates s before q.having) (option_map (placed_cond s before) q.having)

-- how the joined rows become the rows that items read
abbrev pub bound_shape : Select → List ScopeColumn → Shape
bound_shape q columns = if is_grouped q then grouped_shape q columns else Plain

-- a query of these parts over what FROM has joined
abbrev pub query_over : From → Option Cond → Shape → List Expr → Bool → Query
query_over from filter shape items distinct = record { first = from.first; joins = from.joins; filter = filter; shape = shape; items = items; distinct = distinct }

-- a SELECT over what FROM has joined
abbrev pub bound_query : Select → From → Query
bound_query q from =
    query_over from (bound_where (of_rows from.columns) q.condition) (bound_shape q from.columns) (placed_items (item_scope q from.columns) [] (shown_by q.items)) q.is_distinct
