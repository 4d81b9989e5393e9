-- The expression of a tree at each node that has parts.
use Rattle.std.proofs.Common.{◌≡◌, List, [], ◌∷◌, map, refl, sym, ◌∙◌, ap, Vec, Box, Global}
use Rattle.std.specs.List.{fold}
use Rattle.cq_model.specs.declared.expr.CondTree.{CondTree}
use Rattle.cq_model.specs.declared.expr.CondTree.TheOpen as cond_node
use Rattle.cq_model.specs.declared.expr.CondTree.TheViews as cond_view
use Rattle.cq_model.specs.declared.expr.CondTree.TheFolds.{fold-roll-CondTree}
use Rattle.cq_model.specs.declared.expr.CondTree.TheVariants.{rolls-And, rolls-Or}
use Rattle.cq_values.specs.declared.day_part.DayPart.{DayPart}
use Rattle.cq_model.specs.declared.expr.ExprTree.{ExprTree}
use Rattle.cq_model.specs.declared.expr.ExprTree.TheOpen as node
use Rattle.cq_model.specs.declared.expr.ExprTree.TheViews as view
use Rattle.cq_model.specs.declared.expr.ExprTree.TheFolds.{fold-roll-ExprTree}
use Rattle.cq_model.specs.declared.expr.ExprTree.TheVariants.{rolls-Sum, rolls-Product, rolls-Negate, rolls-Extract}
use Rattle.cq_model.specs.Expr.{Expr, Negate, Plus, Times, Extract, Cond, And, Or}
use Rattle.cq_model.specs.Trees.{expr_of, expr_step, cond_of, cond_step}

pub tree-Sum : (first : Box ExprTree Global) (rest : Vec ExprTree Global) → expr_of (view.Sum first rest) ≡ fold Plus (expr_of first.value) (map expr_of rest.items)
tree-Sum first rest = ap expr_of (sym (rolls-Sum first rest)) ∙ fold-roll-ExprTree Expr expr_step (node.Sum first rest)

pub tree-Product : (first : Box ExprTree Global) (rest : Vec ExprTree Global) → expr_of (view.Product first rest) ≡ fold Times (expr_of first.value) (map expr_of rest.items)
tree-Product first rest = ap expr_of (sym (rolls-Product first rest)) ∙ fold-roll-ExprTree Expr expr_step (node.Product first rest)

pub tree-Negate : (part : Box ExprTree Global) → expr_of (view.Negate part) ≡ Negate (expr_of part.value)
tree-Negate part = ap expr_of (sym (rolls-Negate part)) ∙ fold-roll-ExprTree Expr expr_step (node.Negate part)

pub tree-Extract : (day_part : DayPart) (part : Box ExprTree Global) → expr_of (view.Extract day_part part) ≡ Extract day_part (expr_of part.value)
tree-Extract day_part part = ap expr_of (sym (rolls-Extract day_part part)) ∙ fold-roll-ExprTree Expr expr_step (node.Extract day_part part)

pub tree-And : (first : Box CondTree Global) (rest : Vec CondTree Global) → cond_of (cond_view.And first rest) ≡ fold And (cond_of first.value) (map cond_of rest.items)
tree-And first rest = ap cond_of (sym (rolls-And first rest)) ∙ fold-roll-CondTree Cond cond_step (cond_node.And first rest)

pub tree-Or : (first : Box CondTree Global) (rest : Vec CondTree Global) → cond_of (cond_view.Or first rest) ≡ fold Or (cond_of first.value) (map cond_of rest.items)
tree-Or first rest = ap cond_of (sym (rolls-Or first rest)) ∙ fold-roll-CondTree Cond cond_step (cond_node.Or first rest)

-- what a chain of trees comes to, where each node comes to what its parts come to
pub through : {T A B : Type 0} (of : T → A) (f : A → B) (node : A → A → A) (join : B → B → B) → ((a b : A) → f (node a b) ≡ join (f a) (f b))
    → (a : A) (ts : List T) → f (fold node a (map of ts)) ≡ fold join (f a) (map (λ t. f (of t)) ts)
through of f node join each a [] = refl
through of f node join each a (t ∷ ts) =
    through of f node join each (node a (of t)) ts ∙ ap (λ b. fold join b (map (λ u. f (of u)) ts)) (each a (of t))
