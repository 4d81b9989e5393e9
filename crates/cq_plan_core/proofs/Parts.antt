-- Lists that are compared part by part.
use Rattle.std.proofs.Common.{◌≡◌, ◌∙◌, ◌+◌, ◌<◌, ◌≤◌, ℕ, zero, suc, Bool, true, false, List, [], ◌∷◌, drop, length, get_or, refl, sym, ap, ap₂, arith}
use Rattle.std.specs.Prelude.{◌&&◌}
use Rattle.std.specs.Cmp.Lexicographic.{pointwise}
use Rattle.std.proofs.lemmas.List.{drop_all}
use Rattle.cq_model.specs.Expr.{Expr, Cond}
use Rattle.cq_model_core.specs.Same.{same_cond, same_expr}
use Rattle.cq_plan_core.specs.Joined as conds
use Rattle.cq_plan_core.specs.Prefixes as exprs

-- two chains of one kind, each with one part more
pub expr-pairs : (sums : Bool) (a x b y : Expr) → same_expr (exprs.node sums a x) (exprs.node sums b y) ≡ (same_expr a b && same_expr x y)
expr-pairs true a x b y = refl
expr-pairs false a x b y = refl

pub cond-pairs : (all : Bool) (a x b y : Cond) → same_cond (conds.node all a x) (conds.node all b y) ≡ (same_cond a b && same_cond x y)
cond-pairs true a x b y = refl
cond-pairs false a x b y = refl

module _ {K : Type 0} (E : K → K → Bool) where
  part-more : (xs ys : List K) (n : ℕ) (d e : K) → n < length xs → n < length ys
      → pointwise E (drop n xs) (drop n ys) ≡ (E (get_or xs n d) (get_or ys n e) && pointwise E (drop (suc n) xs) (drop (suc n) ys))
  part-more [] ys n d e h k = absurd (omega (arith, h))
  part-more (x ∷ xs) [] n d e h k = absurd (omega (arith, k))
  part-more (x ∷ xs) (y ∷ ys) zero d e h k = refl
  part-more (x ∷ xs) (y ∷ ys) (suc n) d e h k = part-more xs ys n d e (omega (arith, h)) (omega (arith, k))

  module _ (xs ys : List K) where
    -- whether the lists are one is left to the parts from a place on
    abbrev pub Rest : ℕ → Type 0
    Rest n = pointwise E xs ys ≡ pointwise E (drop n xs) (drop n ys)

    pub rest-end : (n : ℕ) → length xs ≤ n → length ys ≤ n → Rest n → pointwise E xs ys ≡ true
    rest-end n h k rest = rest ∙ ap₂ (λ (us vs : List K). pointwise E us vs) (drop_all n xs h) (drop_all n ys k)

    module _ (n : ℕ) (x y : K) (h : n < length xs) (k : n < length ys) (is : x ≡ get_or xs n x) (that : y ≡ get_or ys n y) (rest : Rest n) where
      here : pointwise E xs ys ≡ (E x y && pointwise E (drop (suc n) xs) (drop (suc n) ys))
      here = rest ∙ part-more xs ys n x y h k ∙ ap₂ (λ (a b : K). E a b && pointwise E (drop (suc n) xs) (drop (suc n) ys)) (sym is) (sym that)

      -- the parts there are one
      pub rest-next : E x y ≡ true → Rest (n + 1)
      rest-next one =
          let next : suc n ≡ n + 1 = omega arith in
          here ∙ ap (λ (b : Bool). b && pointwise E (drop (suc n) xs) (drop (suc n) ys)) one ∙ ap (λ (m : ℕ). pointwise E (drop m xs) (drop m ys)) next

      -- or they are not
      pub rest-other : E x y ≡ false → pointwise E xs ys ≡ false
      rest-other other = here ∙ ap (λ (b : Bool). b && pointwise E (drop (suc n) xs) (drop (suc n) ys)) other
