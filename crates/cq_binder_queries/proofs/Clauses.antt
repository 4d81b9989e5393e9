-- How the clauses of a query make up its walk and its parts.
use Rattle.std.proofs.Common.{◌≡◌, List, [], ◌∷◌, map, Option, None}
use Rattle.cq_sql_language.specs.declared.statement.Select.{Select}
use Rattle.cq_binder_rules.specs.declared.fault.Fault.{Fault}
use Rattle.cq_binder_rules.specs.Checks.{first_fault, MayRefuse}
use Rattle.cq_binder_rules.specs.From.{From}
use Rattle.cq_binder_rules.specs.Grouping.{item_scope}
use Rattle.cq_binder_rules.specs.Headers.{shown_by}
use Rattle.cq_binder_rules.specs.Queries.{bound_query}
use Rattle.cq_binder_rules.specs.Scopes.{of_rows}
use Rattle.cq_binder_rules.specs.SourceChecks.{group_checks, where_check}
use Rattle.cq_binder_rules.specs.Typing.{ScopeColumn}
use Rattle.cq_binder_queries.specs.declared.items.Purpose.{Purpose}
use Rattle.cq_binder_queries.specs.declared.parts.BoundParts.{BoundParts}
use Rattle.cq_binder_queries.specs.Items.{item_check}
use Rattle.cq_binder_queries.specs.Parts.{AreBoundParts, clauses_walk, query_of}
use Rattle.cq_binder_queries.proofs.Walks.{none_refuses, second_refused, third_refused}

-- ---- WHERE decides, then GROUP BY, and then the items
module _ (q : Select) (columns : List ScopeColumn) where
  abbrev pub where_walk : List (Option Fault)
  where_walk = where_check (of_rows columns) q.condition ∷ []

  abbrev pub group_walk : List (Option Fault)
  group_walk = group_checks columns q.group

module _ (purpose : Purpose) (q : Select) (columns : List ScopeColumn) where
  abbrev pub item_walk : List (Option Fault)
  item_walk = map (item_check purpose (item_scope q columns)) (shown_by q.items)

  abbrev walk : List (Option Fault)
  walk = clauses_walk purpose q columns

  module _ (kept : first_fault (where_walk q columns) ≡ None) where
    -- GROUP BY refuses
    pub group_refused : (f : Fault) → MayRefuse (first_fault (group_walk q columns)) f → MayRefuse (first_fault walk) f
    group_refused f m = second_refused (where_walk q columns) (group_walk q columns) item_walk kept f m

    module _ (grouped : first_fault (group_walk q columns) ≡ None) where
      -- an item refuses
      pub items_refused : (f : Fault) → MayRefuse (first_fault item_walk) f → MayRefuse (first_fault walk) f
      items_refused f m = third_refused (where_walk q columns) (group_walk q columns) item_walk kept grouped f m

      -- none refuses
      pub clauses_pass : first_fault item_walk ≡ None → first_fault walk ≡ None
      clauses_pass bound = none_refuses (where_walk q columns) (group_walk q columns) item_walk kept grouped bound

-- the parts of a query make what it says over what FROM has joined
pub query_made : (from : From) (q : Select) (parts : BoundParts) → AreBoundParts from.columns q parts → query_of from q parts ≡ bound_query q from
query_made from q parts are = λ i.
    record { first = from.first; joins = from.joins; filter = are.filter i; shape = are.shape i; items = are.items i; distinct = q.is_distinct }
