-- SET, assignment by assignment.
use Rattle.std.proofs.Common.{◌≡◌, ℕ, zero, suc, ◌+◌, ◌<◌, false, List, [], ◌∷◌, ◌++◌, length, get_or, take, drop, Option, Some, Ok, Err, refl, sym, ap, ◌∙◌, arith}
use Rattle.std.specs.Prelude.{option_map}
use Rattle.std.specs.Option.{option_or}
use Rattle.std.proofs.lemmas.List.{at_drop_more, take_more}
use Rattle.std.proofs.lemmas.List.Quantifiers.{position-Some}
use Rattle.cq_values.specs.Texts.{is_text}
use Rattle.cq_sql_language.specs.declared.statement.SetClause.{SetClause}
use Rattle.cq_sql_language.specs.Written.{Written}
use Rattle.cq_model.specs.Expr.{Cond}
use Rattle.cq_model.specs.declared.assignment.Assignment.{Assignment}
use Rattle.cq_binder_rules.specs.declared.fault.Fault.{Fault}
use Rattle.cq_binder_rules.specs.declared.typing.Typing.{Typing}
use Rattle.cq_binder_rules.specs.Checks.{first_fault, MayRefuse}
use Rattle.cq_binder_rules.specs.declared.bound.Bound.TheVariants as commands
use Rattle.cq_binder_rules.specs.Bound.{bound_update}
use Rattle.cq_binder_rules.specs.Refusal.{written_table}
use Rattle.cq_binder_rules.specs.Places.{named_place}
use Rattle.cq_binder_rules.specs.Scopes.{from_table, scope_of}
use Rattle.cq_binder_rules.specs.Sets.{bound_sets, bound_where}
use Rattle.cq_binder_rules.specs.Typing.{Scope, ScopeColumn, set_fault, type_at, typed}
use Rattle.cq_binder_rules.specs.UpdateChecks.{is_set, set_check, set_checks, update_walk}
use Rattle.cq_model_state.specs.State.{TableOf, ViewOf, table_named}
use Rattle.cq_binder_queries.specs.Catalog.{alone}
use Rattle.cq_binder.specs.Binding.{sets_walk}
use Rattle.cq_binder_queries.proofs.Faults.{first_fault_append, one_check, refused_first, refused_same, refused_with}

-- a column at its place has its type
type_there : (columns : List ScopeColumn) (i : ℕ) (d : ScopeColumn) → i < length columns → d ≡ get_or columns i d → type_at columns i ≡ d.ty
type_there [] i d h is = absurd (omega (arith, h))
type_there (c ∷ columns) zero d h is = ap (λ (x : ScopeColumn). x.ty) (sym is)
type_there (c ∷ columns) (suc i) d h is = type_there columns i d (omega (arith, h)) is

column_there : (columns : List ScopeColumn) (name : List ℕ) (i : ℕ) → named_place columns name ≡ Some i → i < length columns
column_there [] name i at = absurd (cc at)
column_there (d ∷ columns) name i at = (position-Some (λ c. is_text c.name name) (d ∷ columns) i d at).0

module _ (s : Scope) where
  -- where the column is there the walk through the expression decides
  pub expression_refused : (before : List SetClause) (a : SetClause) (i : ℕ) (f : Fault) → named_place s.columns a.column ≡ Some i → typed s a.value ≡ Err f → MayRefuse (first_fault (set_check s before a)) f
  expression_refused before a i f there walked = refused_with (first_fault (set_check s before a)) f (rw (there, walked) refl)

  module _ (before : List SetClause) (a : SetClause) (i : ℕ) (d : ScopeColumn) (t : Typing) (there : named_place s.columns a.column ≡ Some i) (fresh : is_set before a.column ≡ false) (walked : typed s a.value ≡ Ok t) (is : d ≡ get_or s.columns i d) where
    -- where the column is there and not set before, and the expression has no fault, the type decides
    type_decides : first_fault (set_check s before a) ≡ set_fault d.ty (typed s a.value)
    type_decides =
        rw (there, fresh, walked, type_there s.columns i d (column_there s.columns a.column i there) is) (one_check (set_fault d.ty (Ok t)))

    -- it refuses
    pub type_refused : (f : Fault) → MayRefuse (set_fault d.ty (typed s a.value)) f → MayRefuse (first_fault (set_check s before a)) f
    type_refused f m = refused_same (set_fault d.ty (typed s a.value)) (first_fault (set_check s before a)) f type_decides m

  module _ (sets : List SetClause) (i : ℕ) (a : SetClause) (lt : i < length sets) (is : a ≡ get_or sets i a) where
    -- the assignments up to this one
    so_far : take i sets ++ a ∷ [] ≡ take (i + 1) sets
    so_far = ap (λ (x : SetClause). take i sets ++ x ∷ []) is ∙ sym (take_more sets i a lt)

    -- the first fault of the assignments from one on: its own, or else that of those behind it
    pub sets_more : first_fault (set_checks s (take i sets) (drop i sets)) ≡ option_or (first_fault (set_check s (take i sets) a)) (first_fault (set_checks s (take (i + 1) sets) (drop (i + 1) sets)))
    sets_more =
        at_drop_more (λ xs. first_fault (set_checks s (take i sets) xs)) sets i a lt
        ∙ ap (λ (x : SetClause). first_fault (set_checks s (take i sets) (x ∷ drop (i + 1) sets))) (sym is)
        ∙ first_fault_append (set_check s (take i sets) a) (set_checks s (take i sets ++ a ∷ []) (drop (i + 1) sets))
        ∙ ap (λ (before : List SetClause). option_or (first_fault (set_check s (take i sets) a)) (first_fault (set_checks s before (drop (i + 1) sets)))) so_far

    -- where those before it have no fault it refuses the whole
    pub sets_refused : (f : Fault) → first_fault (set_checks s (take i sets) (drop i sets)) ≡ first_fault (set_checks s [] sets) → MayRefuse (first_fault (set_check s (take i sets) a)) f → MayRefuse (first_fault (set_checks s [] sets)) f
    sets_refused f rest m =
        let own = first_fault (set_check s (take i sets) a) in
        let behind = first_fault (set_checks s (take (i + 1) sets) (drop (i + 1) sets)) in
        refused_same (option_or own behind) (first_fault (set_checks s [] sets)) f (sym rest ∙ sets_more) (refused_first own behind f m)

-- ---- UPDATE on the table that was found
module _ (name : List ℕ) (sets : List SetClause) (condition : Option Written) (tables : List TableOf) (views : List ViewOf) (t : TableOf) (found : table_named name tables ≡ Some t) where
  -- WHERE and SET decide
  pub walk_decides : first_fault (sets_walk condition sets (written_table name (alone tables views))) ≡ first_fault (update_walk condition sets (scope_of (from_table t)))
  walk_decides = rw found refl

  -- they refuse
  pub walk_refused : (f : Fault) → MayRefuse (first_fault (update_walk condition sets (scope_of (from_table t)))) f → MayRefuse (first_fault (sets_walk condition sets (written_table name (alone tables views)))) f
  walk_refused f m = refused_same (first_fault (update_walk condition sets (scope_of (from_table t)))) (first_fault (sets_walk condition sets (written_table name (alone tables views)))) f walk_decides m

  -- the command is the one on the table
  pub update_named : (number : ℕ) (assignments : List Assignment) (kept : Option Cond) → number ≡ t.number → assignments ≡ bound_sets (scope_of (from_table t)) sets → kept ≡ bound_where (scope_of (from_table t)) condition
      → option_map (bound_update sets condition) (table_named name tables) ≡ Some (commands.Update number assignments kept)
  update_named number assignments kept is_number is_sets is_kept = ap (option_map (bound_update sets condition)) found ∙ (λ i. Some (commands.Update (sym is_number i) (sym is_sets i) (sym is_kept i)))
