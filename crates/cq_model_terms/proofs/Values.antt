-- An expression with its columns renamed has the value in the narrower row that it has in the whole row.
use Rattle.std.proofs.Common.{◌≡◌, ℕ, max, Bool, ◌||◌, List, [], ◌∷◌, map, refl, ap, ap₂}
use Rattle.std.proofs.lemmas.Bool.{eq-eqb, or_left, or_right}
use Rattle.std.specs.List.{fold, list_any}
use Rattle.cq_values.specs.declared.comparison.Comparison.TheVariants.{Equal}
use Rattle.cq_values.specs.declared.value.Value.{Value}
use Rattle.cq_values.specs.Comparison.{compared}
use Rattle.cq_values.specs.Truth.{not_truth, and_truth, or_truth, truth_of}
use Rattle.cq_values.specs.Value.{Row, column}
use Rattle.cq_model.specs.Condition.{any_of, between, holds, is_null, liked}
use Rattle.cq_model.specs.Eval.{eval, extracted, negated, plus, times}
use Rattle.cq_model.specs.Expr.{Expr, Column, Literal, Negate, Plus, Times, Extract, Cond, Compare, IsNull, Between, In, Like, Not, And, Or}
use Rattle.cq_model.specs.Width.{Extent, extent_of, extent_plus, extent_times, part_limit, widest, widest_in, width}
use Rattle.cq_model_terms.specs.Laws.{AreSameOn}
use Rattle.cq_model_terms.specs.Reads.{reads, reads_in}
use Rattle.cq_model_terms.specs.Renamed.{renamed, renamed_cond}

-- what is the same of each column that one of two reads is the same of each that the first reads
same-first : {A : Type 0} (x y : ℕ → A) (f g : ℕ → Bool) → AreSameOn x y (λ i. f i || g i) → AreSameOn x y f
same-first x y f g a i h = a i (or_left (f i) (g i) h)

-- and of each that the second reads
same-second : {A : Type 0} (x y : ℕ → A) (f g : ℕ → Bool) → AreSameOn x y (λ i. f i || g i) → AreSameOn x y g
same-second x y f g a i h = a i (or_right (f i) (g i) h)

-- what two expressions read together, each reads
module _ {A : Type 0} (x y : ℕ → A) (a b : Expr) (same : AreSameOn x y (λ i. reads i a || reads i b)) where
  first-expr : AreSameOn x y (λ i. reads i a)
  first-expr = same-first x y (λ i. reads i a) (λ i. reads i b) same

  second-expr : AreSameOn x y (λ i. reads i b)
  second-expr = same-second x y (λ i. reads i a) (λ i. reads i b) same

-- so it is with two conditions
module _ {A : Type 0} (x y : ℕ → A) (a b : Cond) (same : AreSameOn x y (λ i. reads_in i a || reads_in i b)) where
  first-cond : AreSameOn x y (λ i. reads_in i a)
  first-cond = same-first x y (λ i. reads_in i a) (λ i. reads_in i b) same

  second-cond : AreSameOn x y (λ i. reads_in i b)
  second-cond = same-second x y (λ i. reads_in i a) (λ i. reads_in i b) same

-- ---- values
module _ (to : ℕ → ℕ) (r s : Row) where
  -- the rows have the same in the columns that are read
  abbrev Agree : (ℕ → Bool) → Type 0
  Agree read = AreSameOn (λ i. column r (to i)) (column s) read

  first-of : (f g : ℕ → Bool) → Agree (λ i. f i || g i) → Agree f
  first-of f g a = same-first (λ i. column r (to i)) (column s) f g a

  second-of : (f g : ℕ → Bool) → Agree (λ i. f i || g i) → Agree g
  second-of f g a = same-second (λ i. column r (to i)) (column s) f g a

  pub eval-renamed : (e : Expr) → Agree (λ i. reads i e) → eval (renamed to e) r ≡ eval e s
  eval-renamed (Column i) a = a i (eq-eqb i i refl)
  eval-renamed (Literal v) a = refl
  eval-renamed (Negate e) a = ap negated (eval-renamed e a)
  eval-renamed (Plus x y) a = ap₂ plus (eval-renamed x (first-expr (λ i. column r (to i)) (column s) x y a)) (eval-renamed y (second-expr (λ i. column r (to i)) (column s) x y a))
  eval-renamed (Times x y) a = ap₂ times (eval-renamed x (first-expr (λ i. column r (to i)) (column s) x y a)) (eval-renamed y (second-expr (λ i. column r (to i)) (column s) x y a))
  eval-renamed (Extract part e) a = ap (extracted part) (eval-renamed e a)

  members-renamed : (v w : Value) → v ≡ w → (es : List Expr) → Agree (λ i. list_any (reads i) es)
      → map (λ x. compared Equal v (eval x r)) (map (renamed to) es) ≡ map (λ x. compared Equal w (eval x s)) es
  members-renamed v w is [] a = refl
  members-renamed v w is (e ∷ es) a =
      let first = eval-renamed e (first-of (λ i. reads i e) (λ i. list_any (reads i) es) a) in
      let rest = members-renamed v w is es (second-of (λ i. reads i e) (λ i. list_any (reads i) es) a) in
      λ i. compared Equal (is i) (first i) ∷ rest i

  pub holds-renamed : (c : Cond) → Agree (λ i. reads_in i c) → holds (renamed_cond to c) r ≡ holds c s
  holds-renamed (Compare c x y) a = ap₂ (compared c) (eval-renamed x (first-expr (λ i. column r (to i)) (column s) x y a)) (eval-renamed y (second-expr (λ i. column r (to i)) (column s) x y a))
  holds-renamed (IsNull e) a = ap (λ v. truth_of (is_null v)) (eval-renamed e a)
  holds-renamed (Between e x y) a =
      let ends = second-of (λ i. reads i e) (λ i. reads i x || reads i y) a in
      let p = eval-renamed e (first-of (λ i. reads i e) (λ i. reads i x || reads i y) a) in
      let q = eval-renamed x (first-expr (λ i. column r (to i)) (column s) x y ends) in
      let t = eval-renamed y (second-expr (λ i. column r (to i)) (column s) x y ends) in
      λ i. between (p i) (q i) (t i)
  holds-renamed (In e es) a =
      let p = eval-renamed e (first-of (λ i. reads i e) (λ i. list_any (reads i) es) a) in
      ap any_of (members-renamed (eval (renamed to e) r) (eval e s) p es (second-of (λ i. reads i e) (λ i. list_any (reads i) es) a))
  holds-renamed (Like e pattern) a = ap (λ v. liked v pattern) (eval-renamed e a)
  holds-renamed (Not c) a = ap not_truth (holds-renamed c a)
  holds-renamed (And x y) a = ap₂ and_truth (holds-renamed x (first-cond (λ i. column r (to i)) (column s) x y a)) (holds-renamed y (second-cond (λ i. column r (to i)) (column s) x y a))
  holds-renamed (Or x y) a = ap₂ or_truth (holds-renamed x (first-cond (λ i. column r (to i)) (column s) x y a)) (holds-renamed y (second-cond (λ i. column r (to i)) (column s) x y a))

-- ---- sizes
module _ (to : ℕ → ℕ) (small large : ℕ → ℕ) where
  -- the sizes of the columns that are read are the same
  abbrev Fit : (ℕ → Bool) → Type 0
  Fit read = AreSameOn (λ i. small (to i)) large read

  first-fits : (f g : ℕ → Bool) → Fit (λ i. f i || g i) → Fit f
  first-fits f g a = same-first (λ i. small (to i)) large f g a

  second-fits : (f g : ℕ → Bool) → Fit (λ i. f i || g i) → Fit g
  second-fits f g a = same-second (λ i. small (to i)) large f g a

  -- the wider of two extents
  abbrev wider : Extent → Extent → ℕ
  wider a b = max a.widest b.widest

  pub width-renamed : (e : Expr) → Fit (λ i. reads i e) → width (renamed to e) small ≡ width e large
  width-renamed (Column i) a =
      let same : small (to i) ≡ large i = a i (eq-eqb i i refl) in
      ap (λ (n : ℕ). record { size = n; widest = 0 }) same
  width-renamed (Literal v) a = refl
  width-renamed (Negate e) a = ap (λ (x : Extent). extent_of x.size x.widest) (width-renamed e a)
  width-renamed (Plus x y) a = ap₂ extent_plus (width-renamed x (first-expr (λ i. small (to i)) large x y a)) (width-renamed y (second-expr (λ i. small (to i)) large x y a))
  width-renamed (Times x y) a = ap₂ extent_times (width-renamed x (first-expr (λ i. small (to i)) large x y a)) (width-renamed y (second-expr (λ i. small (to i)) large x y a))
  width-renamed (Extract part e) a = ap (λ (x : Extent). record { size = part_limit part; widest = x.widest }) (width-renamed e a)

  widths-renamed : (es : List Expr) → Fit (λ i. list_any (reads i) es) → map (widest small) (map (renamed to) es) ≡ map (widest large) es
  widths-renamed [] a = refl
  widths-renamed (e ∷ es) a =
      let first = width-renamed e (first-fits (λ i. reads i e) (λ i. list_any (reads i) es) a) in
      let rest = widths-renamed es (second-fits (λ i. reads i e) (λ i. list_any (reads i) es) a) in
      λ i. (first i).widest ∷ rest i

  pub widest-renamed : (c : Cond) → Fit (λ i. reads_in i c) → widest_in (renamed_cond to c) small ≡ widest_in c large
  widest-renamed (Compare c x y) a = ap₂ wider (width-renamed x (first-expr (λ i. small (to i)) large x y a)) (width-renamed y (second-expr (λ i. small (to i)) large x y a))
  widest-renamed (IsNull e) a = ap (λ (x : Extent). x.widest) (width-renamed e a)
  widest-renamed (Between e x y) a =
      let ends = second-fits (λ i. reads i e) (λ i. reads i x || reads i y) a in
      let p = width-renamed e (first-fits (λ i. reads i e) (λ i. reads i x || reads i y) a) in
      let q = width-renamed x (first-expr (λ i. small (to i)) large x y ends) in
      let t = width-renamed y (second-expr (λ i. small (to i)) large x y ends) in
      λ i. max (p i).widest (max (q i).widest (t i).widest)
  widest-renamed (In e es) a =
      let p = width-renamed e (first-fits (λ i. reads i e) (λ i. list_any (reads i) es) a) in
      let q = widths-renamed es (second-fits (λ i. reads i e) (λ i. list_any (reads i) es) a) in
      λ i. max (p i).widest (fold max 0 (q i))
  widest-renamed (Like e pattern) a = ap (λ (x : Extent). x.widest) (width-renamed e a)
  widest-renamed (Not c) a = widest-renamed c a
  widest-renamed (And x y) a = ap₂ max (widest-renamed x (first-cond (λ i. small (to i)) large x y a)) (widest-renamed y (second-cond (λ i. small (to i)) large x y a))
  widest-renamed (Or x y) a = ap₂ max (widest-renamed x (first-cond (λ i. small (to i)) large x y a)) (widest-renamed y (second-cond (λ i. small (to i)) large x y a))
