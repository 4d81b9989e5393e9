-- How the stretches of SELECT make up the whole.
use Rattle.std.proofs.Common.{◌≡◌, ℕ, List, Option, Some, None, Result, Ok, Err, refl, ap, ◌∙◌}
use Rattle.std.specs.Prelude.{option_map}
use Rattle.cq_model_bags.specs.declared.sort_key.SortKey.{SortKey}
use Rattle.cq_binder_rules.specs.declared.bound.Bound.{Bound}
use Rattle.cq_binder_rules.specs.declared.bound.Bound.TheVariants as commands
use Rattle.cq_sql_language.specs.declared.statement.Select.{Select}
use Rattle.cq_model.specs.declared.query.Query.{Query}
use Rattle.cq_binder_rules.specs.declared.fault.Fault.{Fault}
use Rattle.cq_binder_rules.specs.From.{From}
use Rattle.cq_binder_rules.specs.Grouping.{item_scope}
use Rattle.cq_binder_rules.specs.Headers.{header as header_of}
use Rattle.cq_binder_rules.specs.Bound.{bound_select, standing}
use Rattle.cq_binder_rules.specs.Checks.{first_fault, MayRefuse}
use Rattle.cq_binder_rules.specs.Orders.{order_checks, sort_keys}
use Rattle.cq_binder_rules.specs.Refusal.{bag_checks, select_checks, source_checks}
use Rattle.cq_binder_rules.specs.Typing.{ScopeColumn, fault_in}
use Rattle.cq_binder_queries.specs.declared.items.Purpose.TheVariants.{Listed}
use Rattle.cq_binder_queries.specs.declared.parts.BoundParts.{BoundParts}
use Rattle.cq_binder_queries.specs.Parts.{AreBoundParts, clauses_walk, end_walk, query_of}
use Rattle.cq_binder_queries.specs.Select.{BindsQuery}
use Rattle.cq_binder_queries.specs.Walk.{Walked}
use Rattle.cq_binder_queries.proofs.Faults.{none_append, refused_back, refused_front, source_refused, walked_as}
use Rattle.cq_binder_queries.proofs.Clauses.{group_walk, item_walk, query_made, where_walk}
use Rattle.cq_binder_queries.proofs.Walks.{front_refused, rest_decides}

-- ---- WHERE, GROUP BY and the items decide, and then their number and HAVING
module _ (q : Select) (columns : List ScopeColumn) where
  abbrev end : List (Option Fault)
  end = end_walk (item_scope q columns) q

  -- WHERE, GROUP BY or an item refuses
  pub clauses_refused : (f : Fault) → MayRefuse (first_fault (clauses_walk Listed q columns)) f → MayRefuse (first_fault (bag_checks q columns)) f
  clauses_refused f m = front_refused (where_walk q columns) (group_walk q columns) (item_walk Listed q columns) end f m

  -- none of them does
  pub end_decides : first_fault (clauses_walk Listed q columns) ≡ None → first_fault (bag_checks q columns) ≡ first_fault end
  end_decides free = rest_decides (where_walk q columns) (group_walk q columns) (item_walk Listed q columns) end free

-- ---- What makes the bag decides, and then ORDER BY, over what FROM has joined
module _ (q : Select) (from : From) where
  abbrev order_walk : List (Option Fault)
  order_walk = order_checks (header_of 1 q.items) q.order

  abbrev bag_walk : List (Option Fault)
  bag_walk = bag_checks q from.columns

  -- what makes the bag refuses
  pub bag_refused : (f : Fault) → MayRefuse (first_fault bag_walk) f → MayRefuse (first_fault (source_checks q from.columns)) f
  bag_refused f m = refused_front bag_walk order_walk f m

  module _ (free : first_fault bag_walk ≡ None) where
    -- ORDER BY refuses
    pub order_refused : (f : Fault) → MayRefuse (first_fault order_walk) f → MayRefuse (first_fault (source_checks q from.columns)) f
    order_refused f m = refused_back bag_walk order_walk f free m

    -- no place refuses
    pub query_passes : first_fault order_walk ≡ None → first_fault (source_checks q from.columns) ≡ None
    query_passes ordered = none_append bag_walk order_walk free ordered

  -- the command is what its bound parts make
  pub select_made : (header : List (List ℕ)) (made : Query) (parts : BoundParts) (keys : List SortKey) → header ≡ header_of 1 q.items
      → made ≡ query_of from q parts → keys ≡ sort_keys (header_of 1 q.items) q.order → AreBoundParts from.columns q parts
      → commands.Select header made (record { keys = keys; limit = q.limit }) ≡ bound_select q from
  select_made header made parts keys is_header is_query sorted are =
      let query = is_query ∙ query_made from q parts are in λ i. commands.Select (is_header i) (query i) (record { keys = sorted i; limit = q.limit })

-- ---- FROM decides, and then what stands behind it
module _ (q : Select) (r : Result From Fault) where
  -- FROM refuses
  pub from_refused : (f : Fault) → MayRefuse (fault_in r) f → MayRefuse (first_fault (select_checks q r)) f
  from_refused f m = source_refused (select_checks q) r f (λ g. refl) m

  -- what is bound over what FROM has joined is the command
  pub selected : (from : From) (result : Result Bound Fault) → r ≡ Ok from → BindsQuery from q result
      → Walked (select_checks q r) (λ command. option_map (bound_select q) (standing r) ≡ Some command) result
  selected from result is walked =
      walked_as (source_checks q from.columns) (select_checks q r) (bound_select q from) (option_map (bound_select q) (standing r)) result (rw is refl)
      (ap (λ (walk : Result From Fault). option_map (bound_select q) (standing walk)) is) walked
