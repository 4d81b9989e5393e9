-- Chains of sums and products in rows: what is left of one completes it.
use Rattle.std.proofs.Common.{◌≡◌, ℕ, zero, suc, ◌+◌, ◌<◌, ◌≤◌, List, [], ◌∷◌, map, drop, length, get_or, refl, sym, ◌∙◌, ap, subst, Vec, Box, Global}
use Rattle.std.proofs.lemmas.Simd.{zip2_of_maps}
use Rattle.std.specs.List.{AllByRecursion, fold}
use Rattle.std.specs.Prelude.{replicate}
use Rattle.std.specs.Simd.Lanes.{zip2}
use Rattle.cq_values.specs.Value.{Row}
use Rattle.cq_values.specs.declared.day_part.DayPart.{DayPart}
use Rattle.cq_values.specs.declared.value.Value.{Value}
use Rattle.cq_model.specs.declared.expr.ExprTree.{ExprTree}
use Rattle.cq_model.specs.declared.expr.ExprTree.TheVariants as variant
use Rattle.cq_model.specs.declared.expr.ExprTree.TheViews as view
use Rattle.cq_model.specs.declared.expr.ExprTree.TheOpen as node
use Rattle.cq_model.specs.declared.expr.ExprTree.TheFolds.{fold-roll-ExprTree}
use Rattle.cq_model.specs.Expr.{Expr, Literal, Plus, Times}
use Rattle.cq_model.specs.Eval.{eval, extracted, negated}
use Rattle.cq_model.specs.Exact.{IsExactAt, ValueInRange}
use Rattle.cq_model.specs.Trees.{expr_of, expr_step}
use Rattle.cq_model_eval.proofs.Chains as chain
use Rattle.cq_model_eval.proofs.Chains.{IsArithmetic, chain-end, chain-next, first-factor, first-term, negated-part}
use Rattle.cq_model_eval.proofs.Conditions.{map-map}
use Rattle.cq_model_eval.proofs.Trees.{tree-Extract, tree-Negate, tree-Product, tree-Sum}
use Rattle.cq_prims_arithmetic.specs.Operation.{AllInRange}
use Rattle.cq_operators_scans.proofs.Lists.{replicate-map}
use Rattle.cq_model_bags.proofs.Lists.{all-map, all-weaker, map-same}

-- what fits wherever there is a value fits at each place
pub fits-at : (values : List Value) → AllByRecursion ValueInRange values → AllInRange values
fits-at [] all k = tt
fits-at (v ∷ values) all zero = all.0
fits-at (v ∷ values) all (suc k) = fits-at values all.1 k

-- Of a chain a prefix is worked out in each row, and what is left completes the expression.
pub record Valuing (node : Expr → Expr → Expr) (rows : List Row) (left : List ExprTree) (values : List Value) (whole : Expr) : Type 0 where
  pub front : Expr
  pub completes : fold node front (map expr_of left) ≡ whole
  pub are : values ≡ map (eval front) rows

module _ (node : Expr → Expr → Expr) (op : Value → Value → Value) (arithmetic : IsArithmetic node op) (rows : List Row) where
  module _ (whole : Expr) (items : List ExprTree) (i : ℕ) (part : ExprTree) (values : List Value) (more : i < length items) (is : part ≡ get_or items i part) where
    -- in a row: where the whole is exact, so is the next part, and what it makes of the prefix fits
    at-row : (v : Valuing node rows (drop i items) values whole) (row : Row) → IsExactAt whole row → IsExactAt (expr_of part) row × ValueInRange (op (eval v.front row) (eval (expr_of part) row))
    at-row v row exact = chain.within node op arithmetic row whole items i part (eval v.front row) more is exact (record { front = v.front; completes = v.completes; value = refl })

    -- where the whole is exact in each row, so is the next part
    pub part-exact : Valuing node rows (drop i items) values whole → AllByRecursion (IsExactAt whole) rows → AllByRecursion (IsExactAt (expr_of part)) rows
    part-exact v exact = all-weaker _ _ (λ row e. (at-row v row e).0) rows exact

    module _ (others : List Value) (are : others ≡ map (eval (expr_of part)) rows) where
      -- and what it makes of the prefix fits in each row
      pub fits : Valuing node rows (drop i items) values whole → AllByRecursion (IsExactAt whole) rows → AllByRecursion ValueInRange (zip2 op values others)
      fits v exact =
          subst (AllByRecursion ValueInRange) (sym (zip2_of_maps op (eval v.front) (eval (expr_of part)) rows v.are are))
          (all-map _ ValueInRange (λ row. op (eval v.front row) (eval (expr_of part) row)) (λ row e. (at-row v row e).1) rows exact)

      -- one part more
      pub next : (made : List Value) → made ≡ zip2 op values others → Valuing node rows (drop i items) values whole → Valuing node rows (drop (i + 1) items) made whole
      next made is_made v = record {
        front = node v.front (expr_of part);
        completes = chain-next node expr_of items i part v.front whole more is v.completes;
        are = is_made ∙ zip2_of_maps op (eval v.front) (eval (expr_of part)) rows v.are are
            ∙ map-same (λ row. op (eval v.front row) (eval (expr_of part) row)) (eval (node v.front (expr_of part))) (arithmetic.means v.front (expr_of part)) rows;
      }

  -- at the end the prefix is the whole
  pub finish : (whole : Expr) (items : List ExprTree) (i : ℕ) (values : List Value) → length items ≤ i → Valuing node rows (drop i items) values whole → values ≡ map (eval whole) rows
  finish whole items i values h v = v.are ∙ ap (λ (e : Expr). map (eval e) rows) (chain-end node expr_of items i v.front whole h v.completes)

module _ (rows : List Row) (tree : ExprTree) (first : Box ExprTree Global) (rest : Vec ExprTree Global) (head : ExprTree) (one : head ≡ first.value) where
  module _ (items : List ExprTree) (same : items ≡ rest.items) (values : List Value) (are : values ≡ map (eval (expr_of head)) rows) where
    -- a sum begins with its first term
    pub sum-start : tree ≡ view.Sum first rest → Valuing Plus rows items values (expr_of tree)
    sum-start is = record { front = expr_of head; completes = rw (is, one, same) (sym (tree-Sum first rest)); are = are }

    -- and a product with its first factor
    pub product-start : tree ≡ view.Product first rest → Valuing Times rows items values (expr_of tree)
    product-start is = record { front = expr_of head; completes = rw (is, one, same) (sym (tree-Product first rest)); are = are }

  -- where a chain is exact, so is its first part
  pub term-exact : tree ≡ view.Sum first rest → AllByRecursion (IsExactAt (expr_of tree)) rows → AllByRecursion (IsExactAt (expr_of head)) rows
  term-exact is exact = all-weaker _ _ (λ row e. first-term row tree first rest head one is e) rows exact

  pub factor-exact : tree ≡ view.Product first rest → AllByRecursion (IsExactAt (expr_of tree)) rows → AllByRecursion (IsExactAt (expr_of head)) rows
  factor-exact is exact = all-weaker _ _ (λ row e. first-factor row tree first rest head one is e) rows exact

module _ (rows : List Row) (tree : ExprTree) (part : Box ExprTree Global) (x : ExprTree) (is : tree ≡ view.Negate part) (same : x ≡ part.value) (exact : AllByRecursion (IsExactAt (expr_of tree)) rows) where
  -- and the negated numbers fit
  pub negated-fits : (values : List Value) → values ≡ map (eval (expr_of x)) rows → AllByRecursion ValueInRange (map negated values)
  negated-fits values are =
      subst (λ (vs : List Value). AllByRecursion ValueInRange (map negated vs)) (sym are)
      (all-map _ ValueInRange negated (λ v fit. fit) (map (eval (expr_of x)) rows) (all-map _ (λ v. ValueInRange (negated v)) (eval (expr_of x)) (λ row e. (negated-part row tree part x is same e).1) rows exact))

-- where a part of a day is exact, so is the day
pub extract-exact : (rows : List Row) (tree : ExprTree) (day_part : DayPart) (part : Box ExprTree Global) (x : ExprTree) → tree ≡ view.Extract day_part part → x ≡ part.value
    → AllByRecursion (IsExactAt (expr_of tree)) rows → AllByRecursion (IsExactAt (expr_of x)) rows
extract-exact rows tree day_part part x is same exact = all-weaker _ _ (λ row e. rw same (rw (is, tree-Extract day_part part) at e)) rows exact

module _ (rows : List Row) (tree : ExprTree) (made values : List Value) (x : ExprTree) (are : values ≡ map (eval (expr_of x)) rows) where
  -- the negated values are those of the minus
  pub negated-values : (part : Box ExprTree Global) → tree ≡ view.Negate part → x ≡ part.value → made ≡ map negated values → made ≡ map (eval (expr_of tree)) rows
  negated-values part is same is_made =
      is_made ∙ ap (map negated) are ∙ map-map (eval (expr_of x)) negated rows
      ∙ ap (λ (y : ExprTree). map (λ row. negated (eval (expr_of y) row)) rows) same ∙ sym (ap (λ (e : Expr). map (eval e) rows) (ap expr_of is ∙ tree-Negate part))

  -- and the parts of days those of EXTRACT
  pub extracted-values : (day_part : DayPart) (part : Box ExprTree Global) → tree ≡ view.Extract day_part part → x ≡ part.value → made ≡ map (extracted day_part) values → made ≡ map (eval (expr_of tree)) rows
  extracted-values day_part part is same is_made =
      is_made ∙ ap (map (extracted day_part)) are ∙ map-map (eval (expr_of x)) (extracted day_part) rows
      ∙ ap (λ (y : ExprTree). map (λ row. extracted day_part (eval (expr_of y) row)) rows) same ∙ sym (ap (λ (e : Expr). map (eval e) rows) (ap expr_of is ∙ tree-Extract day_part part))

pub tree-Literal : (v : Value) → expr_of (variant.Literal v) ≡ Literal v
unfolding view.roll-ExprTree denote.Hole.Carrier.roll
tree-Literal v = fold-roll-ExprTree Expr expr_step (node.Literal v)

-- a literal has its value in each row
pub literal-values : (rows : List Row) (tree : ExprTree) (v w : Value) (n : ℕ) (made : List Value) → tree ≡ variant.Literal v → w ≡ v → n ≡ length rows → made ≡ replicate n w → made ≡ map (eval (expr_of tree)) rows
literal-values rows tree v w n made is same len is_made =
    is_made ∙ ap (λ (m : ℕ). replicate m w) len ∙ ap (replicate (length rows)) same ∙ replicate-map v rows ∙ sym (ap (λ (e : Expr). map (eval e) rows) (ap expr_of is ∙ tree-Literal v))
