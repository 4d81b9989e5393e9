-- DELETE from the table that was found.
use Rattle.std.proofs.Common.{◌≡◌, ℕ, List, [], ◌∷◌, Option, Some, refl, ap, ap₂, sym, ◌∙◌}
use Rattle.std.specs.Prelude.{option_map}
use Rattle.cq_model.specs.Expr.{Cond}
use Rattle.cq_sql_language.specs.Written.{Written}
use Rattle.cq_binder_rules.specs.declared.bound.Bound.{Bound}
use Rattle.cq_binder_rules.specs.declared.bound.Bound.TheVariants as commands
use Rattle.cq_binder_rules.specs.declared.fault.Fault.{Fault}
use Rattle.cq_binder_rules.specs.Scopes.{from_table, scope_of}
use Rattle.cq_binder_rules.specs.Sets.{bound_where}
use Rattle.cq_binder_rules.specs.Checks.{first_fault, MayRefuse}
use Rattle.cq_binder_rules.specs.SourceChecks.{where_check}
use Rattle.cq_binder_rules.specs.Refusal.{delete_checks, written_table}
use Rattle.cq_model_state.specs.State.{TableOf, ViewOf, table_named}
use Rattle.cq_binder_queries.specs.Catalog.{alone}
use Rattle.cq_binder_queries.proofs.Faults.{refused_same}

-- the command on a table
abbrev pub delete_command : Option Written → TableOf → Bound
delete_command condition t = commands.Delete t.number (bound_where (scope_of (from_table t)) condition)

module _ (name : List ℕ) (condition : Option Written) (tables : List TableOf) (views : List ViewOf) (t : TableOf) (found : table_named name tables ≡ Some t) where
  -- WHERE decides
  pub where_decides : first_fault (delete_checks condition (written_table name (alone tables views))) ≡ first_fault (where_check (scope_of (from_table t)) condition ∷ [])
  where_decides = rw found refl

  -- it refuses
  pub where_refused : (f : Fault) → MayRefuse (first_fault (where_check (scope_of (from_table t)) condition ∷ [])) f → MayRefuse (first_fault (delete_checks condition (written_table name (alone tables views)))) f
  where_refused f m = refused_same (first_fault (where_check (scope_of (from_table t)) condition ∷ [])) (first_fault (delete_checks condition (written_table name (alone tables views)))) f where_decides m

  -- the command is the one on the table
  pub deleted : (number : ℕ) (kept : Option Cond) → number ≡ t.number → kept ≡ bound_where (scope_of (from_table t)) condition → option_map (delete_command condition) (table_named name tables) ≡ Some (commands.Delete number kept)
  deleted number kept is_number is_kept = ap (option_map (delete_command condition)) found ∙ ap₂ (λ (n : ℕ) (o : Option Cond). Some (commands.Delete n o)) (sym is_number) (sym is_kept)
