-- Where columns go when they are renamed.
use Rattle.std.specs.Prelude.{ℕ, ◌-◌}
use Rattle.cq_model.specs.Expr.{Cond, Expr}
use Rattle.cq_model.specs.Trees.{cond_of, expr_of}
use Rattle.cq_model.specs.declared.expr.CondTree.{CondTree}
use Rattle.cq_model.specs.declared.expr.ExprTree.{ExprTree}
use Rattle.cq_model_terms.specs.Places.{place_in}
use Rattle.cq_model_terms.specs.Renamed.{renamed, renamed_cond}
use Rattle.cq_model_terms.specs.declared.naming.Naming.{Naming}
use Rattle.cq_model_terms.specs.declared.naming.Naming.TheVariants.{Same, Among, Behind}

-- each stays, goes to where it stands among those that are kept, or nearer to the front by those that stand before it
abbrev pub place_by : Naming → ℕ → ℕ
place_by Same = λ place. place
place_by (Among kept) = place_in kept.now
place_by (Behind before) = λ place. place - before

-- the expression of a tree with its columns there
abbrev pub expr_by : Naming → ExprTree → Expr
expr_by naming tree = renamed (place_by naming) (expr_of tree)

-- and the condition of one
abbrev pub cond_by : Naming → CondTree → Cond
cond_by naming tree = renamed_cond (place_by naming) (cond_of tree)
