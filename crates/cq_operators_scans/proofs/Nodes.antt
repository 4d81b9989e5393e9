-- The nodes of conditions that are no chains, in rows.
use Rattle.std.proofs.Common.{◌≡◌, List, map, sym, ◌∙◌, ap, subst, Vec, Box, Global, ℕ}
use Rattle.std.proofs.lemmas.Simd.{zip2_of_maps}
use Rattle.std.specs.List.{AllByRecursion}
use Rattle.std.specs.Simd.Lanes.{zip2}
use Rattle.cq_values.specs.Comparison.{compared}
use Rattle.cq_values.specs.Truth.{and_truth, not_truth}
use Rattle.cq_values.specs.Value.{Row}
use Rattle.cq_values.specs.declared.comparison.Comparison.{Comparison}
use Rattle.cq_values.specs.declared.comparison.Comparison.TheVariants.{GreaterOrEqual, LessOrEqual}
use Rattle.cq_values.specs.declared.truth.Truth.{Truth}
use Rattle.cq_values.specs.declared.value.Value.{Value}
use Rattle.cq_model.specs.declared.expr.CondTree.{CondTree}
use Rattle.cq_model.specs.declared.expr.CondTree.TheOpen as node
use Rattle.cq_model.specs.declared.expr.CondTree.TheViews as view
use Rattle.cq_model.specs.declared.expr.CondTree.TheFolds.{fold-roll-CondTree}
use Rattle.cq_model.specs.declared.expr.CondTree.TheVariants as variant
use Rattle.cq_model.specs.declared.expr.CondTree.TheVariants.{rolls-In, rolls-Not}
use Rattle.cq_model.specs.declared.expr.ExprTree.{ExprTree}
use Rattle.cq_model.specs.Condition.{between, holds}
use Rattle.cq_model.specs.Eval.{eval}
use Rattle.cq_model.specs.Exact.{AreExactAt, AreExactIn, IsExactAt}
use Rattle.cq_model.specs.Expr.{Cond, Expr, Compare, IsNull, Between, In, Like, Not}
use Rattle.cq_model.specs.Trees.{cond_of, cond_step, expr_of}
use Rattle.cq_model_eval.proofs.Conditions.{map-map}
use Rattle.cq_model_bags.proofs.Lists.{all-weaker}

tree-Not : (part : Box CondTree Global) → cond_of (view.Not part) ≡ Not (cond_of part.value)
tree-Not part = ap cond_of (sym (rolls-Not part)) ∙ fold-roll-CondTree Cond cond_step (node.Not part)

tree-In : (e : ExprTree) (es : Vec ExprTree Global) → cond_of (variant.In e es) ≡ In (expr_of e) (map expr_of es.items)
tree-In e es = ap cond_of (sym (rolls-In e es)) ∙ fold-roll-CondTree Cond cond_step (node.In e es)

tree-Compare : (c : Comparison) (a b : ExprTree) → cond_of (variant.Compare c a b) ≡ Compare c (expr_of a) (expr_of b)
unfolding view.roll-CondTree denote.Hole.Carrier.roll
tree-Compare c a b = fold-roll-CondTree Cond cond_step (node.Compare c a b)

tree-IsNull : (x : ExprTree) → cond_of (variant.IsNull x) ≡ IsNull (expr_of x)
unfolding view.roll-CondTree denote.Hole.Carrier.roll
tree-IsNull x = fold-roll-CondTree Cond cond_step (node.IsNull x)

tree-Between : (x a b : ExprTree) → cond_of (variant.Between x a b) ≡ Between (expr_of x) (expr_of a) (expr_of b)
unfolding view.roll-CondTree denote.Hole.Carrier.roll
tree-Between x a b = fold-roll-CondTree Cond cond_step (node.Between x a b)

tree-Like : (x : ExprTree) (pattern : List ℕ) → cond_of (variant.Like x pattern) ≡ Like (expr_of x) pattern
unfolding view.roll-CondTree denote.Hole.Carrier.roll
tree-Like x pattern = fold-roll-CondTree Cond cond_step (node.Like x pattern)

module _ (rows : List Row) (tree : CondTree) where
  -- what a node is, its condition is
  exact-as : (c : Cond) → cond_of tree ≡ c → AllByRecursion (AreExactIn (cond_of tree)) rows → AllByRecursion (AreExactIn c) rows
  exact-as c is exact = subst (λ (d : Cond). AllByRecursion (AreExactIn d) rows) is exact

  module _ (exact : AllByRecursion (AreExactIn (cond_of tree)) rows) where
    -- where a comparison is exact in each row, so are both sides
    pub compare-exact : (c : Comparison) (a b : ExprTree) → tree ≡ variant.Compare c a b → AllByRecursion (IsExactAt (expr_of a)) rows × AllByRecursion (IsExactAt (expr_of b)) rows
    compare-exact c a b is =
        let e = exact-as (Compare c (expr_of a) (expr_of b)) (ap cond_of is ∙ tree-Compare c a b) exact in (all-weaker _ _ (λ row h. h.0) rows e, all-weaker _ _ (λ row h. h.1) rows e)

    pub null-exact : (x : ExprTree) → tree ≡ variant.IsNull x → AllByRecursion (IsExactAt (expr_of x)) rows
    null-exact x is = exact-as (IsNull (expr_of x)) (ap cond_of is ∙ tree-IsNull x) exact

    -- and so are the three parts of BETWEEN
    pub between-exact : (x a b : ExprTree) → tree ≡ variant.Between x a b
        → AllByRecursion (IsExactAt (expr_of x)) rows × AllByRecursion (IsExactAt (expr_of a)) rows × AllByRecursion (IsExactAt (expr_of b)) rows
    between-exact x a b is =
        let e = exact-as (Between (expr_of x) (expr_of a) (expr_of b)) (ap cond_of is ∙ tree-Between x a b) exact in
        (all-weaker _ _ (λ row h. h.0) rows e, all-weaker _ _ (λ row h. h.1) rows e, all-weaker _ _ (λ row h. h.2) rows e)

    pub in-exact : (x : ExprTree) (choices : Vec ExprTree Global) → tree ≡ variant.In x choices
        → AllByRecursion (IsExactAt (expr_of x)) rows × AllByRecursion (AreExactAt (map expr_of choices.items)) rows
    in-exact x choices is =
        let e = exact-as (In (expr_of x) (map expr_of choices.items)) (ap cond_of is ∙ tree-In x choices) exact in (all-weaker _ _ (λ row h. h.0) rows e, all-weaker _ _ (λ row h. h.1) rows e)

    pub like-exact : (x : ExprTree) (pattern : List ℕ) → tree ≡ variant.Like x pattern → AllByRecursion (IsExactAt (expr_of x)) rows
    like-exact x pattern is = exact-as (Like (expr_of x) pattern) (ap cond_of is ∙ tree-Like x pattern) exact

    pub not-exact : (part : Box CondTree Global) (p : CondTree) → tree ≡ view.Not part → p ≡ part.value → AllByRecursion (AreExactIn (cond_of p)) rows
    not-exact part p is same = rw same (exact-as (Not (cond_of part.value)) (ap cond_of is ∙ tree-Not part) exact)

  -- NOT turns the truths of its part
  pub not-truths : (part : Box CondTree Global) (p : CondTree) (made truths : List Truth) → tree ≡ view.Not part → p ≡ part.value → truths ≡ map (holds (cond_of p)) rows → made ≡ map not_truth truths
      → made ≡ map (holds (cond_of tree)) rows
  not-truths part p made truths is same are is_made =
      is_made ∙ ap (map not_truth) are ∙ map-map (holds (cond_of p)) not_truth rows
      ∙ ap (λ (q : CondTree). map (λ row. not_truth (holds (cond_of q) row)) rows) same ∙ sym (ap (λ (c : Cond). map (holds c) rows) (ap cond_of is ∙ tree-Not part))

-- two comparisons, joined by AND, are BETWEEN
pub between-truths : (rows : List Row) (e a b : Expr) (values leasts greatests : List Value) (from to made : List Truth)
    → values ≡ map (eval e) rows → leasts ≡ map (eval a) rows → greatests ≡ map (eval b) rows
    → from ≡ zip2 (compared GreaterOrEqual) values leasts → to ≡ zip2 (compared LessOrEqual) values greatests → made ≡ zip2 and_truth from to
    → made ≡ map (λ r. between (eval e r) (eval a r) (eval b r)) rows
between-truths rows e a b values leasts greatests from to made are least greatest is_from is_to is_made =
    is_made
    ∙ zip2_of_maps and_truth (λ r. compared GreaterOrEqual (eval e r) (eval a r)) (λ r. compared LessOrEqual (eval e r) (eval b r)) rows
    (is_from ∙ zip2_of_maps (compared GreaterOrEqual) (eval e) (eval a) rows are least) (is_to ∙ zip2_of_maps (compared LessOrEqual) (eval e) (eval b) rows are greatest)
