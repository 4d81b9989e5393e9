-- Which expressions and conditions have a value too wide on the way.
use Rattle.std.proofs.Common.{◌≡◌, ℕ, ◌+◌, ◌*◌, ◌^◌, ◌<◌, ◌≤◌, max, nat_lt, if◌then◌else◌, ◌&&◌, true, false, Some, None, List, [], ◌∷◌, map, drop, length, get_or, sym, ◌∙◌, ap, arith, Vec, Box, Global, ◌⊎◌, inl, inr}
use Rattle.std.specs.List.{fold, list_all}
use Rattle.cq_model.specs.declared.expr.ExprTree.{ExprTree}
use Rattle.cq_model.specs.declared.expr.ExprTree.TheViews as view
use Rattle.cq_model.specs.declared.expr.CondTree.{CondTree}
use Rattle.cq_model.specs.declared.expr.CondTree.TheViews as cond_view
use Rattle.cq_model.specs.Expr.{Expr}
use Rattle.cq_model.specs.Trees.{cond_of, expr_of}
use Rattle.cq_model.specs.Width.{Extent, extent_of, fitting, width, widest_in}
use Rattle.cq_model_eval.proofs.Chains.{chain-next, extend, widest-front, width-Product, width-Sum}
use Rattle.cq_model_eval.proofs.Conditions.{map-map, widest-And, widest-Or}
use Rattle.cq_model_eval.proofs.Trees.{tree-Negate}

pub fitting-Some : (x : Extent) (n : ℕ) → Some n ≡ fitting x → (n ≡ x.size) × (x.widest < 2 ^ 127)
fitting-Some x n e = grind (arith, e)

pub fitting-None : (x : Extent) → None ≡ fitting x → 2 ^ 127 ≤ x.widest
fitting-None x e = grind (arith, e)

pub fitting-wide : (x : Extent) → 2 ^ 127 ≤ x.widest → None ≡ fitting x
fitting-wide x h = grind (arith, h)

-- In a chain of which a prefix is joined: what is left completes the whole extent, and nothing in the prefix is too wide.
pub record Sizing (need : ℕ → ℕ → ℕ) (z : ℕ → ℕ) (left : List ExprTree) (size : ℕ) (whole : Expr) : Type 0 where
  pub so_far : Extent
  pub extents : fold (extend need) so_far (map (λ t. width (expr_of t) z) left) ≡ width whole z
  pub same : so_far.size ≡ size
  pub fits : so_far.widest < 2 ^ 127

module _ {need : ℕ → ℕ → ℕ} {z : ℕ → ℕ} (items : List ExprTree) {i : ℕ} {part : ExprTree} {size : ℕ} {whole : Expr} (more : i < length items) (is : part ≡ get_or items i part) (prefix : Sizing need z (drop i items) size whole) where
  -- the next part, and what it makes of the prefix, are on the way to the whole
  size-within : ((width (expr_of part) z).widest ≤ (width whole z).widest) × (need size (width (expr_of part) z).size ≤ (width whole z).widest)
  size-within =
      let e = ap {B = ℕ} (λ (x : Extent). x.widest) (chain-next (extend need) (λ t. width (expr_of t) z) items i part prefix.so_far (width whole z) more is prefix.extents) in
      let w = widest-front need (extend need prefix.so_far (width (expr_of part) z)) (map (λ t. width (expr_of t) z) (drop (i + 1) items)) in
      (omega (arith, w, e), rw (sym prefix.same) (omega (arith, w, e)))

  -- a chain is too wide where its next part is
  pub next-wide : None ≡ fitting (width (expr_of part) z) → None ≡ fitting (width whole z)
  next-wide wide = fitting-wide (width whole z) (omega (arith, size-within.0, fitting-None (width (expr_of part) z) wide))

  -- and where what the next part makes of the prefix is
  pub joined-wide : (n : ℕ) → Some n ≡ fitting (width (expr_of part) z) → 2 ^ 127 ≤ need size n → None ≡ fitting (width whole z)
  joined-wide n fits wide =
      let same : need size n ≡ need size (width (expr_of part) z).size = ap (need size) (fitting-Some (width (expr_of part) z) n fits).0 in
      fitting-wide (width whole z) (omega (arith, size-within.1, same, wide))

module _ (z : ℕ → ℕ) (tree : ExprTree) (first : Box ExprTree Global) (rest : Vec ExprTree Global) (head : ExprTree) (one : head ≡ first.value) where
  from-first : (need : ℕ → ℕ → ℕ) → width (expr_of tree) z ≡ fold (extend need) (width (expr_of head) z) (map (λ t. width (expr_of t) z) rest.items) → None ≡ fitting (width (expr_of head) z) → None ≡ fitting (width (expr_of tree) z)
  from-first need e wide =
      fitting-wide (width (expr_of tree) z) (omega (arith, fitting-None (width (expr_of head) z) wide, ap {B = ℕ} (λ (x : Extent). x.widest) e, widest-front need (width (expr_of head) z) (map (λ t. width (expr_of t) z) rest.items)))

  begun : (need : ℕ → ℕ → ℕ) (items : List ExprTree) (size : ℕ) → items ≡ rest.items → width (expr_of tree) z ≡ fold (extend need) (width (expr_of head) z) (map (λ t. width (expr_of t) z) rest.items)
      → Some size ≡ fitting (width (expr_of head) z) → Sizing need z items size (expr_of tree)
  begun need items size same e fits =
      let narrow = fitting-Some (width (expr_of head) z) size fits in
      record { so_far = width (expr_of head) z; extents = rw same (sym e); same = sym narrow.0; fits = narrow.1 }

  sum-is : tree ≡ view.Sum first rest → width (expr_of tree) z ≡ fold (extend ◌+◌) (width (expr_of head) z) (map (λ t. width (expr_of t) z) rest.items)
  sum-is is = rw one (ap (λ t. width (expr_of t) z) is ∙ width-Sum first rest z)

  product-is : tree ≡ view.Product first rest → width (expr_of tree) z ≡ fold (extend ◌*◌) (width (expr_of head) z) (map (λ t. width (expr_of t) z) rest.items)
  product-is is = rw one (ap (λ t. width (expr_of t) z) is ∙ width-Product first rest z)

  -- a chain fits only where its first part does
  pub first-fits : (tree ≡ view.Sum first rest) ⊎ (tree ≡ view.Product first rest) → None ≡ fitting (width (expr_of head) z) → None ≡ fitting (width (expr_of tree) z)
  first-fits (inl is) wide = from-first ◌+◌ (sum-is is) wide
  first-fits (inr is) wide = from-first ◌*◌ (product-is is) wide

  -- after its first part a chain is that part
  pub sum-begun : (items : List ExprTree) (size : ℕ) → items ≡ rest.items → tree ≡ view.Sum first rest → Some size ≡ fitting (width (expr_of head) z) → Sizing ◌+◌ z items size (expr_of tree)
  sum-begun items size same is fits = begun ◌+◌ items size same (sum-is is) fits

  pub product-begun : (items : List ExprTree) (size : ℕ) → items ≡ rest.items → tree ≡ view.Product first rest → Some size ≡ fitting (width (expr_of head) z) → Sizing ◌*◌ z items size (expr_of tree)
  product-begun items size same is fits = begun ◌*◌ items size same (product-is is) fits

worked-out : (x : Extent) (n : ℕ) → (n ≡ x.size) × (x.widest < 2 ^ 127) → (if nat_lt n (2 ^ 127) then Some n else None) ≡ fitting (extent_of x.size x.widest)
worked-out x n e = rw e.0 (grind (arith, e.1))

-- minus makes a number of the size of its part
pub negated-fits : (z : ℕ → ℕ) (tree : ExprTree) (part : Box ExprTree Global) (x : ExprTree) → tree ≡ view.Negate part → x ≡ part.value → (n : ℕ) → Some n ≡ fitting (width (expr_of x) z)
    → (if nat_lt n (2 ^ 127) then Some n else None) ≡ fitting (width (expr_of tree) z)
negated-fits z tree part x is same n fits =
    worked-out (width (expr_of x) z) n (fitting-Some (width (expr_of x) z) n fits)
    ∙ sym (ap fitting (ap (λ t. width (expr_of t) z) is ∙ ap (λ e. width e z) (tree-Negate part) ∙ ap (λ t. extent_of (width (expr_of t) z).size (width (expr_of t) z).widest) (sym same)))

-- the greatest of several is below a limit where each is
fits-from : {X : Type 0} (f : X → ℕ) (n limit : ℕ) (xs : List X) → nat_lt (fold max n (map f xs)) limit ≡ (nat_lt n limit && list_all (λ x. nat_lt (f x) limit) xs)
fits-from f n limit [] = grind arith
fits-from f n limit (x ∷ xs) = fits-from f (max n (f x)) limit xs ∙ grind arith

pub fits_all : {X Y : Type 0} (of : X → Y) (f : Y → ℕ) (xs : List X) → nat_lt (fold max 0 (map f (map of xs))) (2 ^ 127) ≡ list_all (λ x. nat_lt (f (of x)) (2 ^ 127)) xs
fits_all of f xs = ap (λ ns. nat_lt (fold max 0 ns) (2 ^ 127)) (map-map of f xs) ∙ fits-from (λ x. f (of x)) 0 (2 ^ 127) xs

-- a condition of several fits where each of them does
pub several-fit : (z : ℕ → ℕ) (whole : CondTree) (first : Box CondTree Global) (rest : Vec CondTree Global) → (whole ≡ cond_view.And first rest) ⊎ (whole ≡ cond_view.Or first rest)
    → nat_lt (widest_in (cond_of whole) z) (2 ^ 127) ≡ (nat_lt (widest_in (cond_of first.value) z) (2 ^ 127) && list_all (λ t. nat_lt (widest_in (cond_of t) z) (2 ^ 127)) rest.items)
several-fit z whole first rest (inl is) = ap (λ n. nat_lt n (2 ^ 127)) (ap (λ t. widest_in (cond_of t) z) is ∙ widest-And first rest z) ∙ fits-from (λ t. widest_in (cond_of t) z) (widest_in (cond_of first.value) z) (2 ^ 127) rest.items
several-fit z whole first rest (inr is) = ap (λ n. nat_lt n (2 ^ 127)) (ap (λ t. widest_in (cond_of t) z) is ∙ widest-Or first rest z) ∙ fits-from (λ t. widest_in (cond_of t) z) (widest_in (cond_of first.value) z) (2 ^ 127) rest.items

module _ (z : ℕ → ℕ) (whole : CondTree) (first : Box CondTree Global) (rest : Vec CondTree Global) (head : CondTree) (one : head ≡ first.value) (is : (whole ≡ cond_view.And first rest) ⊎ (whole ≡ cond_view.Or first rest)) where
  -- a condition whose first part is too wide is too wide
  pub first-wide : nat_lt (widest_in (cond_of head) z) (2 ^ 127) ≡ false → false ≡ nat_lt (widest_in (cond_of whole) z) (2 ^ 127)
  first-wide wide =
      let e : nat_lt (widest_in (cond_of first.value) z) (2 ^ 127) ≡ false = ap (λ t. nat_lt (widest_in (cond_of t) z) (2 ^ 127)) (sym one) ∙ wide in
      sym (several-fit z whole first rest is ∙ ap (λ b. b && list_all (λ t. nat_lt (widest_in (cond_of t) z) (2 ^ 127)) rest.items) e)

  -- and else whether it is, is left to the others
  pub first-narrow : (items : List CondTree) → items ≡ rest.items → nat_lt (widest_in (cond_of head) z) (2 ^ 127) ≡ true
      → list_all (λ t. nat_lt (widest_in (cond_of t) z) (2 ^ 127)) items ≡ nat_lt (widest_in (cond_of whole) z) (2 ^ 127)
  first-narrow items same narrow =
      let e : nat_lt (widest_in (cond_of first.value) z) (2 ^ 127) ≡ true = ap (λ t. nat_lt (widest_in (cond_of t) z) (2 ^ 127)) (sym one) ∙ narrow in
      rw same (sym (several-fit z whole first rest is ∙ ap (λ b. b && list_all (λ t. nat_lt (widest_in (cond_of t) z) (2 ^ 127)) rest.items) e))
