-- Chains of AND and OR that are read from their end.
use Rattle.std.specs.Prelude.{◌≡◌, Bool, true, false, List, map, fold, Option, Some, None}
use Rattle.std.specs.Borrow.{Bor}
use Rattle.cq_model.specs.Expr.{Cond, And, Or}
use Rattle.cq_model.specs.Expr as terms
use Rattle.cq_model.specs.Trees.{cond_of, expr_of}
use Rattle.cq_model.specs.declared.expr.CondTree.{CondTree}
use Rattle.cq_model_core.specs.Same.{same_cond}
use Rattle.cq_plan_core.specs.declared.conds.Asked.{Asked}
use Rattle.cq_plan_core.specs.declared.conds.Asked.TheVariants as last
use Rattle.cq_plan_core.specs.declared.conds.Joined.{Joined}

-- two parts of a chain, joined by AND or by OR
abbrev pub node : Bool → Cond → Cond → Cond
node true = And
node false = Or

-- a first part, and others behind it
abbrev pub chained : Bool → Cond → List Cond → Cond
chained all c cs = fold (node all) c cs

-- the condition of a prefix
abbrev pub prefix_of : Joined → Cond
prefix_of p = chained p.all (cond_of p.first.now) (map cond_of p.rest.now)

-- the condition that ends with a step
abbrev pub step_of : Asked → Cond
step_of (last.Compare c a b) = terms.Compare c (expr_of a.now) (expr_of b.now)
step_of (last.IsNull e) = terms.IsNull (expr_of e.now)
step_of (last.Between e a b) = terms.Between (expr_of e.now) (expr_of a.now) (expr_of b.now)
step_of (last.In e es) = terms.In (expr_of e.now) (map expr_of es.now)
step_of (last.Like e pattern) = terms.Like (expr_of e.now) pattern.now
step_of (last.Not c) = terms.Not (cond_of c.now)
step_of (last.And p c) = And (prefix_of p) (cond_of c.now)
step_of (last.Or p c) = Or (prefix_of p) (cond_of c.now)

-- the prefix without its last part, and that part, if it ends so
abbrev pub IsLast : Bool → Joined → Option (Joined × Bor CondTree) → Type 0
IsLast all p (Some taken) = prefix_of p ≡ node all (prefix_of taken.0) (cond_of taken.1.now)
IsLast all p None = (a b : Cond) → same_cond (node all a b) (prefix_of p) ≡ false

-- whether a condition is what is left
abbrev pub is_left : Cond → Option Joined → Bool
is_left c None = false
is_left c (Some left) = same_cond c (prefix_of left)

-- this is left of a prefix without these parts at its end: they end it, and whatever stands before them is all of it
abbrev pub IsTakenOff : Bool → List Cond → Joined → Option Joined → Type 0
IsTakenOff all parts p left = (c : Cond) → same_cond (chained all c parts) (prefix_of p) ≡ is_left c left
