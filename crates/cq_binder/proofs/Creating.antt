-- How the stretches of CREATE TABLE and CREATE VIEW make up the whole.
use Rattle.std.proofs.Common.{◌≡◌, ℕ, Bool, false, List, [], ◌∷◌, ◌++◌, length, Option, Some, None, Result, ap, ◌∙◌}
use Rattle.std.specs.Prelude.{option_map}
use Rattle.cq_binder_rules.specs.declared.bound.Bound.{Bound}
use Rattle.cq_values.specs.declared.column.ColumnDef.{ColumnDef}
use Rattle.cq_sql_language.specs.declared.statement.Statement.TheVariants as statements
use Rattle.cq_sql_language.specs.declared.statement.Select.{Select}
use Rattle.cq_binder_rules.specs.declared.fault.Fault.{Fault}
use Rattle.cq_binder_rules.specs.declared.fault.Fault.TheVariants.{NameTaken}
use Rattle.cq_binder_rules.specs.Bound.{bound_view, standing}
use Rattle.cq_binder_rules.specs.Checks.{fault_if, first_fault, too_long, MayRefuse}
use Rattle.cq_binder_rules.specs.From.{view_walk}
use Rattle.cq_binder_rules.specs.ViewChecks.{create_view_checks, view_select_checks}
use Rattle.cq_binder_rules.specs.Refusal.{column_checks, create_checks, sort_checks}
use Rattle.cq_model_state.specs.State.{TableOf, ViewOf, is_taken}
use Rattle.cq_binder_queries.specs.Catalog.{alone}
use Rattle.cq_binder.specs.Binding.{BindsAlone}
use Rattle.cq_binder_queries.specs.View.{BindsView}
use Rattle.cq_binder_queries.proofs.Faults.{first_fault_append, or_next, refused_front, refused_same, walked_same}

-- ---- CREATE TABLE: under a free name the columns decide, then their number, and then SORT BY
module _ (name : List ℕ) (columns : List ColumnDef) (sort : List (List ℕ)) (tables : List TableOf) (views : List ViewOf) (free : is_taken name (alone tables views) ≡ false) where
  abbrev entries : List (Option Fault)
  entries = too_long (length columns) ∷ []

  abbrev sort_walk : List (Option Fault)
  sort_walk = sort_checks columns [] sort

  -- the name is no fault
  create_goes_on : first_fault (create_checks name columns sort (alone tables views)) ≡ first_fault (column_checks [] columns ++ (entries ++ sort_walk))
  create_goes_on = ap (λ (b : Bool). first_fault (fault_if b NameTaken ∷ column_checks [] columns ++ (entries ++ sort_walk))) free

  -- a column refuses
  pub columns_refused : (f : Fault) → MayRefuse (first_fault (column_checks [] columns)) f → MayRefuse (first_fault (create_checks name columns sort (alone tables views))) f
  columns_refused f m =
      refused_same (first_fault (column_checks [] columns ++ (entries ++ sort_walk))) (first_fault (create_checks name columns sort (alone tables views))) f create_goes_on
      (refused_front (column_checks [] columns) (entries ++ sort_walk) f m)

  -- behind the columns only their number and SORT BY are left
  create_ends : first_fault (column_checks [] columns) ≡ None → first_fault (create_checks name columns sort (alone tables views)) ≡ first_fault (entries ++ sort_walk)
  create_ends distinct =
      create_goes_on
      ∙ first_fault_append (column_checks [] columns) (entries ++ sort_walk)
      ∙ or_next (first_fault (column_checks [] columns)) (first_fault (entries ++ sort_walk)) distinct

  -- there are too many columns
  pub length_refused : (f : Fault) → first_fault (column_checks [] columns) ≡ None → MayRefuse (first_fault entries) f → MayRefuse (first_fault (create_checks name columns sort (alone tables views))) f
  length_refused f distinct m =
      refused_same (first_fault (entries ++ sort_walk)) (first_fault (create_checks name columns sort (alone tables views))) f (create_ends distinct) (refused_front entries sort_walk f m)

  -- behind the number of the columns SORT BY decides
  pub sort_decides : first_fault (column_checks [] columns) ≡ None → first_fault entries ≡ None → first_fault (create_checks name columns sort (alone tables views)) ≡ first_fault sort_walk
  sort_decides distinct few = create_ends distinct ∙ first_fault_append entries sort_walk ∙ or_next (first_fault entries) (first_fault sort_walk) few

-- ---- CREATE VIEW: under a free name the query decides
module _ (name : List ℕ) (v : Select) (tables : List TableOf) (views : List ViewOf) (free : is_taken name (alone tables views) ≡ false) where
  abbrev query_walk : List (Option Fault)
  query_walk = view_select_checks v (view_walk (alone tables views) v)

  query_decides : first_fault (create_view_checks name v (alone tables views)) ≡ first_fault query_walk
  query_decides = ap (λ (b : Bool). first_fault (fault_if b NameTaken ∷ query_walk)) free

  -- what is bound of the query is the command
  pub view_created : (result : Result Bound Fault) → BindsView (alone tables views) name v result → BindsAlone (alone tables views) (statements.CreateView name v) result
  view_created result walked =
      walked_same query_walk (create_view_checks name v (alone tables views)) (λ (command : Bound). option_map (bound_view name v) (standing (view_walk (alone tables views) v)) ≡ Some command) result query_decides walked
