-- Chains of sums and products: what is left of one completes it, in value and in extent.
use Rattle.std.proofs.Common.{◌≡◌, ℕ, ◌+◌, ◌≤◌, ◌<◌, max, List, [], ◌∷◌, map, drop, length, get_or, drop-cons, add-one, refl, sym, ◌∙◌, ap, arith, Vec, Box, Global}
use Rattle.std.proofs.lemmas.List.{drop_all}
use Rattle.std.specs.List.{fold}
use Rattle.cq_values.specs.Value.{Row}
use Rattle.cq_values.specs.declared.value.Value.{Value}
use Rattle.cq_model.specs.declared.expr.ExprTree.{ExprTree}
use Rattle.cq_model.specs.declared.expr.ExprTree.TheViews as view
use Rattle.cq_model.specs.Expr.{Expr, Plus, Times}
use Rattle.cq_model.specs.Eval.{plus, times, negated, eval}
use Rattle.cq_model.specs.Exact.{IsExactAt, ValueInRange}
use Rattle.cq_model.specs.Trees.{expr_of}
use Rattle.cq_model.specs.Width.{Extent, extent_of, extent_plus, extent_times, width}
use Rattle.cq_model_eval.proofs.Trees.{through, tree-Negate, tree-Product, tree-Sum}

-- the next of what is left
pub map-drop : {X Y : Type 0} (f : X → Y) (xs : List X) (i : ℕ) (d : X) → i < length xs → map f (drop i xs) ≡ f (get_or xs i d) ∷ map f (drop (i + 1) xs)
map-drop f xs i d h = rw (add-one, drop-cons xs i d) refl

-- one part more of a chain
pub chain-next : {X Y : Type 0} (join : Y → Y → Y) (f : X → Y) (xs : List X) (i : ℕ) (x : X) (so_far whole : Y) → i < length xs → x ≡ get_or xs i x
    → fold join so_far (map f (drop i xs)) ≡ whole → fold join (join so_far (f x)) (map f (drop (i + 1) xs)) ≡ whole
chain-next join f xs i x so_far whole h is e =
    ap (λ y. fold join (join so_far (f y)) (map f (drop (i + 1) xs))) is ∙ sym (ap (fold join so_far) (map-drop f xs i x h)) ∙ e

-- no part is left
pub chain-end : {X Y : Type 0} (join : Y → Y → Y) (f : X → Y) (xs : List X) (i : ℕ) (so_far whole : Y) → length xs ≤ i → fold join so_far (map f (drop i xs)) ≡ whole → so_far ≡ whole
chain-end {X = X} join f xs i so_far whole h e = sym (ap (λ (left : List X). fold join so_far (map f left)) (drop_all i xs h)) ∙ e

-- the extent of two parts that need this much together
abbrev pub extend : (ℕ → ℕ → ℕ) → Extent → Extent → Extent
extend need a b = extent_of (need a.size b.size) (max a.widest b.widest)

-- a chain is at least as wide as its prefix
pub widest-front : (need : ℕ → ℕ → ℕ) (a : Extent) (xs : List Extent) → a.widest ≤ (fold (extend need) a xs).widest
widest-front need a [] = omega arith
widest-front need a (x ∷ xs) = omega (arith, widest-front need (extend need a x) xs)

-- Of a chain a prefix is worked out to v, and what is left completes the expression.
pub record Evaluating (node : Expr → Expr → Expr) (row : Row) (left : List ExprTree) (v : Value) (whole : Expr) : Type 0 where
  pub front : Expr
  pub completes : fold node front (map expr_of left) ≡ whole
  pub value : v ≡ eval front row

-- a node of arithmetic: it works out its parts' values, and where it is exact, so are they, and its result fits
pub record IsArithmetic (node : Expr → Expr → Expr) (op : Value → Value → Value) : Type 0 where
  pub means : (a b : Expr) (row : Row) → op (eval a row) (eval b row) ≡ eval (node a b) row
  pub exact : (a b : Expr) (row : Row) → IsExactAt (node a b) row → IsExactAt a row × IsExactAt b row × ValueInRange (op (eval a row) (eval b row))

pub sums : IsArithmetic Plus plus
sums = record { means = λ a b row. refl; exact = λ a b row exact. exact }

pub products : IsArithmetic Times times
products = record { means = λ a b row. refl; exact = λ a b row exact. exact }

module _ (node : Expr → Expr → Expr) (op : Value → Value → Value) (arithmetic : IsArithmetic node op) (row : Row) where
  -- where a chain is exact, so is its prefix
  front-exact : (front : Expr) (es : List Expr) → IsExactAt (fold node front es) row → IsExactAt front row
  front-exact front [] exact = exact
  front-exact front (e ∷ es) exact = (arithmetic.exact front e row (front-exact (node front e) es exact)).0

  module _ (whole : Expr) (items : List ExprTree) (i : ℕ) (part : ExprTree) (v : Value) (more : i < length items) (is : part ≡ get_or items i part) where
    -- where the whole is exact, so is the next part, and what it makes of the prefix fits
    pub within : IsExactAt whole row → Evaluating node row (drop i items) v whole → IsExactAt (expr_of part) row × ValueInRange (op v (eval (expr_of part) row))
    within exact e =
        let left = chain-next node expr_of items i part e.front whole more is e.completes in
        let both = arithmetic.exact e.front (expr_of part) row (front-exact (node e.front (expr_of part)) (map expr_of (drop (i + 1) items)) (rw left exact)) in
        (both.1, rw e.value both.2)

    -- one part more
    pub next : (w : Value) → w ≡ eval (expr_of part) row → Evaluating node row (drop i items) v whole → Evaluating node row (drop (i + 1) items) (op v w) whole
    next w is_value e = record {
      front = node e.front (expr_of part);
      completes = chain-next node expr_of items i part e.front whole more is e.completes;
      value = rw (e.value, is_value) (arithmetic.means e.front (expr_of part) row);
    }

  -- at the end the prefix is the whole
  pub finish : (whole : Expr) (items : List ExprTree) (i : ℕ) (v : Value) → length items ≤ i → Evaluating node row (drop i items) v whole → v ≡ eval whole row
  finish whole items i v h e = e.value ∙ ap (λ x. eval x row) (chain-end node expr_of items i e.front whole h e.completes)

module _ (row : Row) (tree : ExprTree) (first : Box ExprTree Global) (rest : Vec ExprTree Global) (head : ExprTree) (one : head ≡ first.value) where
  module _ (items : List ExprTree) (same : items ≡ rest.items) (v : Value) (is_value : v ≡ eval (expr_of head) row) where
    -- a sum begins with its first term
    pub sum-start : tree ≡ view.Sum first rest → Evaluating Plus row items v (expr_of tree)
    sum-start is = record { front = expr_of head; completes = rw (is, one, same) (sym (tree-Sum first rest)); value = is_value }

    -- and a product with its first factor
    pub product-start : tree ≡ view.Product first rest → Evaluating Times row items v (expr_of tree)
    product-start is = record { front = expr_of head; completes = rw (is, one, same) (sym (tree-Product first rest)); value = is_value }

  -- where a chain is exact, so is its first part
  pub first-term : tree ≡ view.Sum first rest → IsExactAt (expr_of tree) row → IsExactAt (expr_of head) row
  first-term is exact = rw one (front-exact Plus plus sums row (expr_of first.value) (map expr_of rest.items) (rw (is, tree-Sum first rest) at exact))

  pub first-factor : tree ≡ view.Product first rest → IsExactAt (expr_of tree) row → IsExactAt (expr_of head) row
  first-factor is exact = rw one (front-exact Times times products row (expr_of first.value) (map expr_of rest.items) (rw (is, tree-Product first rest) at exact))

-- where a minus is exact, so is its part, and the negated number fits
pub negated-part : (row : Row) (tree : ExprTree) (part : Box ExprTree Global) (x : ExprTree) → tree ≡ view.Negate part → x ≡ part.value
    → IsExactAt (expr_of tree) row → IsExactAt (expr_of x) row × ValueInRange (negated (eval (expr_of x) row))
negated-part row tree part x is same exact = rw same (rw (is, tree-Negate part) at exact)

module _ (first : Box ExprTree Global) (rest : Vec ExprTree Global) where
  -- the extent of a sum
  pub width-Sum : (z : ℕ → ℕ) → width (expr_of (view.Sum first rest)) z ≡ fold extent_plus (width (expr_of first.value) z) (map (λ t. width (expr_of t) z) rest.items)
  width-Sum z = ap (λ e. width e z) (tree-Sum first rest) ∙ through expr_of (λ e. width e z) Plus extent_plus (λ a b. refl) (expr_of first.value) rest.items

  -- and of a product
  pub width-Product : (z : ℕ → ℕ) → width (expr_of (view.Product first rest)) z ≡ fold extent_times (width (expr_of first.value) z) (map (λ t. width (expr_of t) z) rest.items)
  width-Product z = ap (λ e. width e z) (tree-Product first rest) ∙ through expr_of (λ e. width e z) Times extent_times (λ a b. refl) (expr_of first.value) rest.items
