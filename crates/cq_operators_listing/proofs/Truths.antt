-- What the truths of a column tell of its places.
use Rattle.std.proofs.Common.{◌≡◌, ◌<◌, ◌≤◌, ◌-◌, ◌+◌, ℕ, zero, suc, Bool, true, false, not, if◌then◌else◌, List, [], ◌∷◌, map, filter, length, get_or, refl, sym, ◌∙◌, ap, ap₂, subst, arith, nat_lt, Ordering, Less, Equal, Greater}
use Rattle.std.specs.Prelude.{replicate, slice_index_or}
use Rattle.std.specs.Ordering.{is_gt, is_le}
use Rattle.std.specs.List.{All, range_with_len}
use Rattle.std.specs.List.Sorted.{IsStrictlyIncreasing}
use Rattle.std.specs.Simd.Lanes.{zip2}
use Rattle.std.proofs.lemmas.Bool.{ltb-true, ltb-false}
use Rattle.std.proofs.lemmas.List.{get_or_default, get_or_past}
use Rattle.std.proofs.lemmas.List.Elements.{All-tail}
use Rattle.std.proofs.lemmas.List.Kept.{AllPairs-from_increasing}
use Rattle.cq_values.specs.declared.value.Value.{Value}
use Rattle.cq_values.specs.declared.value.Value.TheVariants.{Null, Number, Text, Day}
use Rattle.cq_values.specs.declared.truth.Truth.{Truth}
use Rattle.cq_values.specs.declared.truth.Truth.TheVariants.{True, False, Unknown}
use Rattle.cq_values.specs.declared.comparison.Comparison.TheVariants.{LessOrEqual}
use Rattle.cq_values.specs.Comparison.{compared}
use Rattle.cq_values.specs.Truth.{is_true, or_truth, truth_of}
use Rattle.cq_values.specs.Value.{is_null}
use Rattle.cq_values.specs.Order.{value_cmp}
use Rattle.cq_vectors_masks.specs.Selection.{is_true_at, where_true}
use Rattle.cq_model_bags.proofs.Totals.{by_test}
use Rattle.cq_operators_listing.specs.Places.{TellBefore, is_behind}

-- ---- one value
not_above : (o : Ordering) → is_true (truth_of (is_le o)) ≡ not (is_gt o)
not_above Less = refl
not_above Equal = refl
not_above Greater = refl

-- in ascending order NULL stands behind any other value
value_up : (v w : Value) → is_null w ≡ false → is_true (compared LessOrEqual v w) ≡ not (is_gt (value_cmp v w))
value_up Null (Number n) h = refl
value_up Null (Day d) h = refl
value_up Null (Text t) h = refl
value_up v Null h = absurd (cc h)
value_up (Number m) (Number n) h = not_above (value_cmp (Number m) (Number n))
value_up (Number m) (Day d) h = refl
value_up (Number m) (Text t) h = refl
value_up (Day d) (Number n) h = refl
value_up (Day d) (Day e) h = not_above (value_cmp (Day d) (Day e))
value_up (Day d) (Text t) h = refl
value_up (Text s) (Number n) h = refl
value_up (Text s) (Day d) h = refl
value_up (Text s) (Text t) h = not_above (value_cmp (Text s) (Text t))

-- the value beside the worst one, or NULL
abbrev down : Value → Value → Truth
down w v = or_truth (compared LessOrEqual w v) (truth_of (is_null v))

or_false : (t : Truth) → is_true (or_truth t (truth_of false)) ≡ is_true t
or_false True = refl
or_false False = refl
or_false Unknown = refl

-- in descending order NULL stands first
value_down : (w v : Value) → is_true (down w v) ≡ not (is_gt (value_cmp w v))
value_down Null Null = refl
value_down Null (Number n) = refl
value_down Null (Day d) = refl
value_down Null (Text t) = refl
value_down (Number m) Null = refl
value_down (Day d) Null = refl
value_down (Text s) Null = refl
value_down (Number m) (Number n) = or_false (compared LessOrEqual (Number m) (Number n)) ∙ not_above (value_cmp (Number m) (Number n))
value_down (Number m) (Day d) = refl
value_down (Number m) (Text t) = refl
value_down (Day d) (Number n) = refl
value_down (Day d) (Day e) = or_false (compared LessOrEqual (Day d) (Day e)) ∙ not_above (value_cmp (Day d) (Day e))
value_down (Day d) (Text t) = refl
value_down (Text s) (Number n) = refl
value_down (Text s) (Day d) = refl
value_down (Text s) (Text t) = or_false (compared LessOrEqual (Text s) (Text t)) ∙ not_above (value_cmp (Text s) (Text t))

-- ---- the value at a place
abbrev truths_up : List Value → Value → List Truth
truths_up values w = zip2 (compared LessOrEqual) values (replicate (length values) w)

abbrev truths_down : List Value → Value → List Truth
truths_down values w = zip2 or_truth (zip2 (compared LessOrEqual) (replicate (length values) w) values) (map (λ v. truth_of (is_null v)) values)

at_up : (values : List Value) (w : Value) (p : ℕ) → is_null w ≡ false → is_true (slice_index_or (truths_up values w) p Unknown) ≡ not (is_behind false values w p)
at_up [] w p h = value_up Null w h
at_up (v ∷ values) w zero h = value_up v w h
at_up (v ∷ values) w (suc p) h = at_up values w p h

at_down : (values : List Value) (w : Value) (p : ℕ) → p < length values → is_true (slice_index_or (truths_down values w) p Unknown) ≡ not (is_behind true values w p)
at_down [] w p h = absurd (omega (arith, h))
at_down (v ∷ values) w zero h = value_down w v
at_down (v ∷ values) w (suc p) h = at_down values w p (omega (arith, h))

-- ---- the places
-- tests that agree at these places keep the same ones
kept_alike : (f g : ℕ → Bool) (P : ℕ → Type 0) → ((p : ℕ) → P p → f p ≡ g p) → (places : List ℕ) → All P places → filter f places ≡ filter g places
kept_alike f g P alike [] all = refl
kept_alike f g P alike (p ∷ places) all =
    ap₂ (λ (keep : Bool) (rest : List ℕ). if keep then p ∷ rest else rest) (alike p (all 0 p (omega arith))) (kept_alike f g P alike places (All-tail P p places all))

pub tells_up : (values : List Value) (w : Value) → TellBefore false values w (truths_up values w)
tells_up values w places h =
    kept_alike _ (λ p. not (is_behind false values w p)) (λ p. is_null w ≡ false) (λ p e. at_up values w p e) places (λ k d within. h)

pub tells_down : (values : List Value) (w : Value) → TellBefore true values w (truths_down values w)
tells_down values w places h =
    kept_alike _ (λ p. not (is_behind true values w p)) (λ p. p < length values) (λ p e. at_down values w p e) places h

-- where a test fails at each of these places
test_fails : (f : ℕ → Bool) (start n p : ℕ) → filter f (range_with_len start n) ≡ [] → start ≤ p → p < start + n → f p ≡ false
test_fails f start zero p e l h = absurd (omega (arith, l, h))
test_fails f start (suc n) p e l h =
    let rest : List ℕ = filter f (range_with_len (start + 1) n) in
    let kept : (b : Bool) → f start ≡ b → (if b then start ∷ rest else rest) ≡ [] = λ b is. sym (ap (λ (b : Bool). if b then start ∷ rest else rest) is) ∙ e in
    by_test (f start)
    (λ on. absurd (cc (kept true on)))
    (λ off. by_test (nat_lt start p)
    (λ later. test_fails f (start + 1) n p (kept false off) (omega (arith, ltb-true start p later)) (omega (arith, h)))
    (λ here. let is : start ≡ p = omega (arith, l, ltb-false start p here) in subst (λ (q : ℕ). f q ≡ false) is off))

all_fail : (f : ℕ → Bool) → ((p : ℕ) → f p ≡ false) → (places : List ℕ) → filter f places ≡ []
all_fail f off [] = refl
all_fail f off (p ∷ places) = rw (off p) (all_fail f off places)

-- where no truth of a place is True none of any places is kept
pub none_kept : (truths : List Truth) (kept places : List ℕ) → kept ≡ where_true truths (range_with_len 0 (length truths)) → length kept ≡ 0 → kept ≡ where_true truths places
none_kept truths kept places e n =
    let none : kept ≡ [] = empty kept n in
    none ∙ sym (all_fail (is_true_at truths) at places)
  where
    empty : (ps : List ℕ) → length ps ≡ 0 → ps ≡ []
    empty [] h = refl
    empty (p ∷ ps) h = absurd (omega (arith, h))

    at : (p : ℕ) → is_true_at truths p ≡ false
    at p = by_test (nat_lt p (length truths))
        (λ h. test_fails (is_true_at truths) 0 (length truths) p (sym e ∙ empty kept n) (omega arith) (omega (arith, ltb-true p (length truths) h)))
        (λ h. ap is_true (get_or_past truths p Unknown (ltb-false p (length truths) h)))

-- places that rise are below whatever the last one is below
pub below_end : (places : List ℕ) (n : ℕ) → IsStrictlyIncreasing places → get_or places (length places - 1) 0 < n → All (λ p. p < n) places
below_end places n up last k d within =
    let end : ℕ = length places - 1 in
    let here : get_or places end 0 ≡ get_or places end d = get_or_default places end 0 d (omega (arith, within)) in
    by_test (nat_lt k end)
    (λ h. let less = AllPairs-from_increasing places up k end d (ltb-true k end h) (omega (arith, within)) in omega (arith, less, here, last))
    (λ h. let is : k ≡ end = omega (arith, within, ltb-false k end h) in subst (λ (i : ℕ). get_or places i d < n) (sym is) (omega (arith, here, last)))

-- ---- what stands beside the values is the worst one at each place
module _ (values beside : List Value) (w : Value) (same : beside ≡ replicate (length values) w) where
  pub told_up : (truths : List Truth) → truths ≡ zip2 (compared LessOrEqual) values beside → TellBefore false values w truths
  told_up truths e =
      subst (TellBefore false values w) (sym (e ∙ ap (λ (ws : List Value). zip2 (compared LessOrEqual) values ws) same)) (tells_up values w)

  pub told_down : (known nulls truths : List Truth) → known ≡ zip2 (compared LessOrEqual) beside values → nulls ≡ map (λ v. truth_of (is_null v)) values → truths ≡ zip2 or_truth known nulls
      → TellBefore true values w truths
  told_down known nulls truths k n e =
      let known_is : known ≡ zip2 (compared LessOrEqual) (replicate (length values) w) values = k ∙ ap (λ (ws : List Value). zip2 (compared LessOrEqual) ws values) same in
      subst (TellBefore true values w) (sym (e ∙ ap₂ (λ (ts us : List Truth). zip2 or_truth ts us) known_is n)) (tells_down values w)

  -- there are as many truths as values
  pub known_long : (known nulls : List Truth) → known ≡ zip2 (compared LessOrEqual) beside values → nulls ≡ map (λ v. truth_of (is_null v)) values → length known ≡ length nulls
  known_long known nulls k n =
      ap length (k ∙ ap (λ (ws : List Value). zip2 (compared LessOrEqual) ws values) same) ∙ long values ∙ sym (ap length n)
    where
      long : (vs : List Value) → length (zip2 (compared LessOrEqual) (replicate (length vs) w) vs) ≡ length (map (λ v. truth_of (is_null v)) vs)
      long [] = refl
      long (v ∷ vs) = ap suc (long vs)
