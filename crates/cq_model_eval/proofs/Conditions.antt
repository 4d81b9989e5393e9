-- Conditions over several parts: what is left of a chain completes its truth.
use Rattle.std.proofs.Common.{◌≡◌, ℕ, zero, suc, ◌<◌, max, List, [], ◌∷◌, map, length, get_or, refl, sym, ◌∙◌, ap, arith, Vec, Box, Global}
use Rattle.std.specs.List.{AllByRecursion, fold}
use Rattle.cq_values.specs.Value.{Row}
use Rattle.cq_values.specs.declared.truth.Truth.{Truth}
use Rattle.cq_values.specs.declared.truth.Truth.TheVariants.{True, False}
use Rattle.cq_values.specs.Truth.{and_truth, or_truth}
use Rattle.cq_model.specs.declared.expr.CondTree.{CondTree}
use Rattle.cq_model.specs.declared.expr.CondTree.TheViews as view
use Rattle.cq_model.specs.Condition.{holds}
use Rattle.cq_model.specs.Exact.{AreExactIn}
use Rattle.cq_model.specs.Expr.{Cond, And, Or}
use Rattle.cq_model.specs.Trees.{cond_of}
use Rattle.cq_model.specs.Width.{widest_in}
use Rattle.cq_model_eval.proofs.Trees.{through, tree-And, tree-Or}

module _ (first : Box CondTree Global) (rest : Vec CondTree Global) where
  pub holds-And : (r : Row) → holds (cond_of (view.And first rest)) r ≡ fold and_truth (holds (cond_of first.value) r) (map (λ t. holds (cond_of t) r) rest.items)
  holds-And r = ap (λ c. holds c r) (tree-And first rest) ∙ through cond_of (λ c. holds c r) And and_truth (λ a b. refl) (cond_of first.value) rest.items

  pub holds-Or : (r : Row) → holds (cond_of (view.Or first rest)) r ≡ fold or_truth (holds (cond_of first.value) r) (map (λ t. holds (cond_of t) r) rest.items)
  holds-Or r = ap (λ c. holds c r) (tree-Or first rest) ∙ through cond_of (λ c. holds c r) Or or_truth (λ a b. refl) (cond_of first.value) rest.items

  pub widest-And : (z : ℕ → ℕ) → widest_in (cond_of (view.And first rest)) z ≡ fold max (widest_in (cond_of first.value) z) (map (λ t. widest_in (cond_of t) z) rest.items)
  widest-And z = ap (λ c. widest_in c z) (tree-And first rest) ∙ through cond_of (λ c. widest_in c z) And max (λ a b. refl) (cond_of first.value) rest.items

  pub widest-Or : (z : ℕ → ℕ) → widest_in (cond_of (view.Or first rest)) z ≡ fold max (widest_in (cond_of first.value) z) (map (λ t. widest_in (cond_of t) z) rest.items)
  widest-Or z = ap (λ c. widest_in c z) (tree-Or first rest) ∙ through cond_of (λ c. widest_in c z) Or max (λ a b. refl) (cond_of first.value) rest.items

pub map-map : {X Y Z : Type 0} (f : X → Y) (g : Y → Z) (xs : List X) → map g (map f xs) ≡ map (λ x. g (f x)) xs
map-map f g [] = refl
map-map f g (x ∷ xs) = ap (λ zs. g (f x) ∷ zs) (map-map f g xs)

-- what holds of each holds of the one at a place
pub at-place : {X Y : Type 0} (P : Y → Type 0) (f : X → Y) (xs : List X) (i : ℕ) (d x : X) → i < length xs → x ≡ get_or xs i d → AllByRecursion P (map f xs) → P (f x)
at-place P f [] i d x h is all = absurd (omega arith)
at-place P f (y ∷ ys) zero d x h is all = rw is all.0
at-place P f (y ∷ ys) (suc i) d x h is all = at-place P f ys i d x (omega arith) is all.1

false-stays : (ts : List Truth) → fold and_truth False ts ≡ False
false-stays [] = refl
false-stays (t ∷ ts) = false-stays ts

true-stays : (ts : List Truth) → fold or_truth True ts ≡ True
true-stays [] = refl
true-stays (t ∷ ts) = true-stays ts

-- a chain of AND that has come to False is False
pub false-found : (so_far whole : Truth) (left : List Truth) → so_far ≡ False → fold and_truth so_far left ≡ whole → so_far ≡ whole
false-found so_far whole left found e = found ∙ sym (false-stays left) ∙ ap (λ t. fold and_truth t left) (sym found) ∙ e

-- a chain of OR that has come to True is True
pub true-found : (so_far whole : Truth) (left : List Truth) → so_far ≡ True → fold or_truth so_far left ≡ whole → so_far ≡ whole
true-found so_far whole left found e = found ∙ sym (true-stays left) ∙ ap (λ t. fold or_truth t left) (sym found) ∙ e

-- where a chain of two-part nodes is exact, so is each of its parts
parts-exact : (node : Cond → Cond → Cond) (r : Row) → ((a b : Cond) → AreExactIn (node a b) r → AreExactIn a r × AreExactIn b r) → (c : Cond) (cs : List Cond)
    → AreExactIn (fold node c cs) r → AreExactIn c r × AllByRecursion (λ x. AreExactIn x r) cs
parts-exact node r both c [] exact = (exact, tt)
parts-exact node r both c (d ∷ ds) exact =
    let later = parts-exact node r both (node c d) ds exact in
    let first = both c d later.0 in
    (first.0, (first.1, later.1))

module _ (r : Row) (whole : CondTree) (first : Box CondTree Global) (rest : Vec CondTree Global) (head : CondTree) (items : List CondTree) (one : head ≡ first.value) (same : items ≡ rest.items) (exact : AreExactIn (cond_of whole) r) where
  -- the parts of a chain of AND are exact where the chain is
  pub and-exact : whole ≡ view.And first rest → AreExactIn (cond_of head) r × AllByRecursion (λ c. AreExactIn c r) (map cond_of items)
  and-exact is = rw (one, same) (parts-exact And r (λ a b h. h) (cond_of first.value) (map cond_of rest.items) (rw (is, tree-And first rest) at exact))

  -- and those of OR
  pub or-exact : whole ≡ view.Or first rest → AreExactIn (cond_of head) r × AllByRecursion (λ c. AreExactIn c r) (map cond_of items)
  or-exact is = rw (one, same) (parts-exact Or r (λ a b h. h) (cond_of first.value) (map cond_of rest.items) (rw (is, tree-Or first rest) at exact))

  -- in particular the one at a place
  module _ (i : ℕ) (part : CondTree) (more : i < length items) (at : part ≡ get_or items i part) where
    pub and-part : whole ≡ view.And first rest → AreExactIn (cond_of part) r
    and-part is = at-place (λ c. AreExactIn c r) cond_of items i part part more at (and-exact is).1

    pub or-part : whole ≡ view.Or first rest → AreExactIn (cond_of part) r
    or-part is = at-place (λ c. AreExactIn c r) cond_of items i part part more at (or-exact is).1

-- before its second part a chain has the truth of its first, and the rest to come
module _ (r : Row) (whole : CondTree) (first : Box CondTree Global) (rest : Vec CondTree Global) (head : CondTree) (items : List CondTree) (truth : Truth) (one : head ≡ first.value) (same : items ≡ rest.items) (is_truth : truth ≡ holds (cond_of head) r) where
  pub and-start : whole ≡ view.And first rest → fold and_truth truth (map (λ t. holds (cond_of t) r) items) ≡ holds (cond_of whole) r
  and-start is = rw (is_truth, one, same) (sym (ap (λ t. holds (cond_of t) r) is ∙ holds-And first rest r))

  pub or-start : whole ≡ view.Or first rest → fold or_truth truth (map (λ t. holds (cond_of t) r) items) ≡ holds (cond_of whole) r
  or-start is = rw (is_truth, one, same) (sym (ap (λ t. holds (cond_of t) r) is ∙ holds-Or first rest r))
