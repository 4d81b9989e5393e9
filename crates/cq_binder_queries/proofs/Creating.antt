-- How the stretches of a view's query make up the whole, and the command that it makes.
use Rattle.std.proofs.Common.{◌≡◌, ℕ, List, [], ◌∷◌, ◌++◌, Option, Some, None, Result, Ok, Err, refl, ap, ◌∙◌}
use Rattle.std.specs.Prelude.{is_some, not, option_map}
use Rattle.cq_binder_rules.specs.declared.bound.Bound.{Bound}
use Rattle.cq_binder_rules.specs.declared.bound.Bound.TheVariants as commands
use Rattle.cq_sql_language.specs.declared.statement.Select.{Select}
use Rattle.cq_model.specs.declared.query.Query.{Query}
use Rattle.cq_binder_rules.specs.declared.fault.Fault.{Fault}
use Rattle.cq_binder_rules.specs.Bound.{bound_view, standing}
use Rattle.cq_binder_rules.specs.Checks.{first_fault, MayRefuse}
use Rattle.cq_binder_rules.specs.From.{From}
use Rattle.cq_binder_rules.specs.Grouping.{is_empty, item_scope}
use Rattle.cq_binder_rules.specs.Headers.{header}
use Rattle.cq_binder_rules.specs.Orders.{key_checks}
use Rattle.cq_binder_rules.specs.Typing.{ScopeColumn, fault_in}
use Rattle.cq_binder_rules.specs.ViewChecks.{absent_checks, no_clause, query_checks, view_select_checks}
use Rattle.cq_binder_queries.specs.declared.items.Purpose.TheVariants.{Kept}
use Rattle.cq_binder_queries.specs.declared.viewing.BoundView.{BoundView}
use Rattle.cq_binder_queries.specs.Parts.{clauses_walk, end_walk, query_of}
use Rattle.cq_binder_queries.specs.View.{BindsViewOver, IsBoundView, name_walk}
use Rattle.cq_binder_queries.specs.Walk.{Walked}
use Rattle.cq_binder_queries.proofs.Faults.{none_append, refused_back, refused_front, refused_same, source_refused, walked_as}
use Rattle.cq_binder_queries.proofs.Clauses.{group_walk, item_walk, query_made, where_walk}
use Rattle.cq_binder_queries.proofs.Walks.{front_refused, none_refuses, rest_decides, second_refused, third_refused}

-- ---- WHERE, GROUP BY and the items decide, then the names and DISTINCT, then the number of items and HAVING, and then what
-- no view has
module _ (v : Select) (columns : List ScopeColumn) where
  abbrev end : List (Option Fault)
  end = end_walk (item_scope v columns) v

  abbrev behind : List (Option Fault)
  behind = name_walk v ++ (end ++ absent_checks v)

  -- WHERE, GROUP BY or an item refuses
  pub clauses_refused : (f : Fault) → MayRefuse (first_fault (clauses_walk Kept v columns)) f → MayRefuse (first_fault (query_checks v columns)) f
  clauses_refused f m = front_refused (where_walk v columns) (group_walk v columns) (item_walk Kept v columns) behind f m

  module _ (free : first_fault (clauses_walk Kept v columns) ≡ None) where
    behind_decides : first_fault (query_checks v columns) ≡ first_fault behind
    behind_decides = rest_decides (where_walk v columns) (group_walk v columns) (item_walk Kept v columns) behind free

    -- a name or DISTINCT refuses
    pub names_refused : (f : Fault) → MayRefuse (first_fault (name_walk v)) f → MayRefuse (first_fault (query_checks v columns)) f
    names_refused f m = refused_same (first_fault behind) (first_fault (query_checks v columns)) f behind_decides (refused_front (name_walk v) (end ++ absent_checks v) f m)

    module _ (named : first_fault (name_walk v) ≡ None) where
      -- the number of items or HAVING refuses
      pub end_refused : (f : Fault) → MayRefuse (first_fault end) f → MayRefuse (first_fault (query_checks v columns)) f
      end_refused f m =
          refused_same (first_fault behind) (first_fault (query_checks v columns)) f behind_decides
          (refused_back (name_walk v) (end ++ absent_checks v) f named (refused_front end (absent_checks v) f m))

      module _ (ended : first_fault end ≡ None) where
        -- a clause that no view has refuses
        pub absent_refused : (f : Fault) → MayRefuse (first_fault (absent_checks v)) f → MayRefuse (first_fault (query_checks v columns)) f
        absent_refused f m =
            refused_same (first_fault behind) (first_fault (query_checks v columns)) f behind_decides
            (refused_back (name_walk v) (end ++ absent_checks v) f named (refused_back end (absent_checks v) f ended m))

        -- none refuses
        pub view_passes : first_fault (absent_checks v) ≡ None → first_fault (query_checks v columns) ≡ None
        view_passes none = behind_decides ∙ none_append (name_walk v) (end ++ absent_checks v) named (none_append end (absent_checks v) ended none)

-- ---- HAVING decides, then the keys of ORDER BY, then ORDER BY itself, and then LIMIT
module _ (v : Select) where
  abbrev having_walk : List (Option Fault)
  having_walk = no_clause (is_some v.having) ∷ []

  abbrev key_walk : List (Option Fault)
  key_walk = key_checks (header 1 v.items) v.order

  abbrev order_walk : List (Option Fault)
  order_walk = no_clause (not (is_empty v.order)) ∷ []

  abbrev limit_walk : List (Option Fault)
  limit_walk = no_clause (is_some v.limit) ∷ []

  -- HAVING refuses
  pub having_refused : (f : Fault) → MayRefuse (first_fault having_walk) f → MayRefuse (first_fault (absent_checks v)) f
  having_refused f m = refused_front having_walk (key_walk ++ (order_walk ++ limit_walk)) f m

  module _ (held : first_fault having_walk ≡ None) where
    -- a key refuses
    pub keys_refused : (f : Fault) → MayRefuse (first_fault key_walk) f → MayRefuse (first_fault (absent_checks v)) f
    keys_refused f m = second_refused having_walk key_walk (order_walk ++ limit_walk) held f m

    module _ (keyed : first_fault key_walk ≡ None) where
      -- ORDER BY refuses
      pub order_refused : (f : Fault) → MayRefuse (first_fault order_walk) f → MayRefuse (first_fault (absent_checks v)) f
      order_refused f m = third_refused having_walk key_walk (order_walk ++ limit_walk) held keyed f (refused_front order_walk limit_walk f m)

      -- only LIMIT is left
      pub limit_decides : first_fault order_walk ≡ None → first_fault (absent_checks v) ≡ first_fault limit_walk
      limit_decides ordered = rest_decides having_walk key_walk order_walk limit_walk (none_refuses having_walk key_walk order_walk held keyed ordered)

-- the command for a view is what its bound parts make over what FROM has joined
pub view_made : (name called : List ℕ) (v : Select) (from : From) (made : Query) (shown : BoundView) → called ≡ name → made ≡ query_of from v shown.parts
    → IsBoundView from.columns v shown → commands.CreateView called shown.columns made ≡ bound_view name v from
view_made name called v from made shown is_name is_query is =
    let query = is_query ∙ query_made from v shown.parts is.parts in λ i. commands.CreateView (is_name i) (is.columns_of i) (query i)

-- ---- FROM decides, and then what stands behind it
module _ (name : List ℕ) (v : Select) (r : Result From Fault) where
  -- FROM refuses
  pub from_refused : (f : Fault) → MayRefuse (fault_in r) f → MayRefuse (first_fault (view_select_checks v r)) f
  from_refused f m = source_refused (view_select_checks v) r f (λ g. refl) m

  -- what is bound over what FROM has joined is the command
  pub viewed : (from : From) (result : Result Bound Fault) → r ≡ Ok from → BindsViewOver from name v result
      → Walked (view_select_checks v r) (λ command. option_map (bound_view name v) (standing r) ≡ Some command) result
  viewed from result is walked =
      walked_as (query_checks v from.columns) (view_select_checks v r) (bound_view name v from) (option_map (bound_view name v) (standing r)) result (rw is refl)
      (ap (λ (walk : Result From Fault). option_map (bound_view name v) (standing walk)) is) walked
