-- The items of a query with their names resolved.
use Rattle.std.specs.Prelude.{◌≡◌, fold, List, map, Option, Result}
use Rattle.cq_sql_language.specs.declared.statement.SelectItem.{SelectItem}
use Rattle.cq_sql_language.specs.declared.written.ExprNode.{ExprNode}
use Rattle.cq_sql_language.specs.Written.{Written, written}
use Rattle.cq_model.specs.declared.query.Aggregate.{Aggregate}
use Rattle.cq_model.specs.Expr.{Expr}
use Rattle.cq_binder_rules.specs.declared.fault.Fault.{Fault}
use Rattle.cq_binder_rules.specs.declared.typing.Typing.{Typing}
use Rattle.cq_binder_rules.specs.Headers.{shown_by}
use Rattle.cq_binder_rules.specs.Placed.{placed_expr, with_aggregates}
use Rattle.cq_binder_rules.specs.Queries.{placed_items}
use Rattle.cq_binder_rules.specs.Typing.{Scope, kept_fault, typed, value_fault}
use Rattle.cq_binder_queries.specs.Walk.{Walked}
use Rattle.cq_binder_expressions.specs.Expressions.{PlacesBehind, scope_of}
use Rattle.cq_binder_expressions.specs.declared.scope.Scope.{Scope as Seen}
use Rattle.cq_binder_queries.specs.declared.items.Purpose.{Purpose}
use Rattle.cq_binder_queries.specs.declared.items.Purpose.TheVariants.{Kept, Listed}

-- what is shown are the values of the items behind these aggregates, and the aggregates of the items are put behind them
pub record AreItems (s : Scope) (before after : List Aggregate) (items : List SelectItem) (shown : List Expr) : Type 0 where
  pub values : shown ≡ placed_items s before (shown_by items)
  pub aggregates : after ≡ fold (with_aggregates s) before (shown_by items)

-- an item that is listed is a value, and one that is kept a value with a type of its own
abbrev pub item_fault : Purpose → Result Typing Fault → Option Fault
item_fault Listed t = value_fault t
item_fault Kept t = kept_fault t

-- an item: the walk through it, and then what it is to be
abbrev pub item_check : Purpose → Scope → Written → Option Fault
item_check purpose s w = item_fault purpose (typed s w)

-- an item is bound behind these aggregates where it has no fault
abbrev pub BindsItem : Purpose → Scope → List Aggregate → List Aggregate → Written → Result Expr Fault → Type 0
BindsItem purpose s before after w result = PlacesBehind placed_expr (item_fault purpose) s before after w result

-- so it is with the node of an item in a scope
abbrev pub BindsNode : Purpose → Seen → List Aggregate → List Aggregate → ExprNode → Result Expr Fault → Type 0
BindsNode purpose seen before after node result = BindsItem purpose (scope_of seen) before after (written node) result

-- items are bound where none of them has a fault
abbrev pub BindsItems : Purpose → Scope → List Aggregate → List Aggregate → List SelectItem → Result (List Expr) Fault → Type 0
BindsItems purpose s before after items result = Walked (map (item_check purpose s) (shown_by items)) (AreItems s before after items) result
