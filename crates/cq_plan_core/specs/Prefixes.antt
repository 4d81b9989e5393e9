-- Chains that are read from their end.
use Rattle.std.specs.Prelude.{◌≡◌, Bool, true, false, List, map, fold, Option, Some, None}
use Rattle.std.specs.Borrow.{Bor}
use Rattle.cq_model.specs.Expr.{Expr, Plus, Times}
use Rattle.cq_model.specs.Expr as terms
use Rattle.cq_model.specs.Trees.{expr_of}
use Rattle.cq_model.specs.declared.expr.ExprTree.{ExprTree}
use Rattle.cq_model_core.specs.Same.{same_expr}
use Rattle.cq_plan_core.specs.declared.exprs.Prefix.{Prefix}
use Rattle.cq_plan_core.specs.declared.exprs.Step.{Step}
use Rattle.cq_plan_core.specs.declared.exprs.Step.TheVariants as last

-- two parts of a chain, added or multiplied
abbrev pub node : Bool → Expr → Expr → Expr
node true = Plus
node false = Times

-- a first part, and others behind it
abbrev pub chained : Bool → Expr → List Expr → Expr
chained sums e es = fold (node sums) e es

-- the expression of a prefix
abbrev pub prefix_of : Prefix → Expr
prefix_of p = chained p.sums (expr_of p.first.now) (map expr_of p.rest.now)

-- the expression that ends with a step
abbrev pub step_of : Step → Expr
step_of (last.Column i) = terms.Column i
step_of (last.Literal v) = terms.Literal v.now
step_of (last.Negate e) = terms.Negate (expr_of e.now)
step_of (last.Plus p e) = Plus (prefix_of p) (expr_of e.now)
step_of (last.Times p e) = Times (prefix_of p) (expr_of e.now)
step_of (last.Extract part e) = terms.Extract part (expr_of e.now)

-- the prefix without its last part, and that part, if it ends so
abbrev pub IsLast : Bool → Prefix → Option (Prefix × Bor ExprTree) → Type 0
IsLast sums p (Some taken) = prefix_of p ≡ node sums (prefix_of taken.0) (expr_of taken.1.now)
IsLast sums p None = (a b : Expr) → same_expr (node sums a b) (prefix_of p) ≡ false

-- whether an expression is what is left
abbrev pub is_left : Expr → Option Prefix → Bool
is_left e None = false
is_left e (Some left) = same_expr e (prefix_of left)

-- this is left of a prefix without these parts at its end: they end it, and whatever stands before them is all of it
abbrev pub IsTakenOff : Bool → List Expr → Prefix → Option Prefix → Type 0
IsTakenOff sums parts p left = (e : Expr) → same_expr (chained sums e parts) (prefix_of p) ≡ is_left e left
