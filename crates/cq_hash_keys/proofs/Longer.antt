-- Keys with one column more.
use Rattle.std.proofs.Common.{◌≡◌, ℕ, zero, suc, ◌<◌, List, [], ◌∷◌, ◌++◌, map, take, drop, length, get_or, refl, sym, ◌∙◌, ap, ap₂, subst, arith, true≢false}
use Rattle.std.specs.List.{AllByRecursion, IsDistinct, zip}
use Rattle.std.proofs.lemmas.List.{get_or-map, length-append, length-map}
use Rattle.cq_values.specs.declared.value.Value.{Value}
use Rattle.cq_values.specs.declared.value.Value.TheVariants.{Null}
use Rattle.cq_values.specs.Keys.{same_row-refl, same_row-same}
use Rattle.cq_values.specs.Order.{same_row}
use Rattle.cq_values.specs.Value.{Row, column}
use Rattle.cq_model_bags.proofs.Totals.{by_test}
use Rattle.cq_hash_keys.specs.declared.stage.Stage.{Stage}
use Rattle.cq_hash_keys.specs.Grid.{same_pair}
use Rattle.cq_hash_keys.specs.Keys.{key_at}
use Rattle.cq_hash_keys_values.specs.Met.{with_new}
use Rattle.cq_hash_keys.specs.Stages.{IsStage, IsWithinBoth, behind, joined, longer}
use Rattle.cq_hash_keys_values.specs.Values.{same_value}
use Rattle.cq_hash_keys.proofs.Grids.{pair-itself, pair-same}
use Rattle.cq_hash_keys_values.proofs.Growing.{all-new, met-more, new-named, new-once, one-number}
use Rattle.cq_hash_keys_values.proofs.Meeting.{stays}
use Rattle.cq_hash_keys_values.proofs.ValueKeys.{value-itself, value-same}

-- what comes last and what comes before it
pub snoc-parts : (xs ys : Row) (x y : Value) → xs ++ x ∷ [] ≡ ys ++ y ∷ [] → (xs ≡ ys) × (x ≡ y)
snoc-parts [] [] x y e = (refl, ap (λ (l : Row). get_or l 0 Null) e)
snoc-parts [] (z ∷ ys) x y e = absurd (let l = ap (λ (r : Row). length r) e in omega (arith, l, length-append ys (y ∷ [])))
snoc-parts (w ∷ xs) [] x y e = absurd (let l = ap (λ (r : Row). length r) e in omega (arith, l, length-append xs (x ∷ [])))
snoc-parts (w ∷ xs) (z ∷ ys) x y e =
    let rest = snoc-parts xs ys x y (ap (λ (l : Row). drop 1 l) e) in
    (ap₂ (λ (v : Value) (l : Row). v ∷ l) (ap (λ (l : Row). get_or l 0 Null) e) rest.0, rest.1)

module _ (keys : List Row) (values : List Value) (keys_once : IsDistinct same_row keys) (values_once : IsDistinct same_value values) where
  -- two pairs make one key only where they are one
  pub joined-agree : (p q : ℕ × ℕ) → IsWithinBoth (length keys) (length values) p → IsWithinBoth (length keys) (length values) q
      → same_row (joined keys values p) (joined keys values q) ≡ same_pair p q
  joined-agree p q here there = by_test (same_pair p q)
      (λ s.
      ap (λ (r : ℕ × ℕ). same_row (joined keys values p) (joined keys values r)) (sym (pair-same p q s))
      ∙ same_row-refl (joined keys values p) ∙ sym s)
      (λ s. by_test (same_row (joined keys values p) (joined keys values q))
      (λ t.
      let parts = snoc-parts (key_at keys p.0) (key_at keys q.0) (column values p.1) (column values q.1) (same_row-same (joined keys values p) (joined keys values q) t) in
      let firsts : p.0 ≡ q.0 = one-number same_row [] same_row-same same_row-refl keys p.0 q.0 keys_once here.0 there.0 parts.0 in
      let seconds : p.1 ≡ q.1 = one-number same_value Null value-same value-itself values p.1 q.1 values_once here.1 there.1 parts.1 in
      let one : p ≡ q = λ i. (firsts i, seconds i) in
      absurd (true≢false (sym (pair-itself p) ∙ ap (same_pair p) one ∙ s)))
      (λ t. t ∙ sym s))

-- ---- a pair's key stays, as more keys and values come behind
module _ (keys keys_more : List Row) (values values_more : List Value) where
  within-more : (p : ℕ × ℕ) → IsWithinBoth (length keys) (length values) p → IsWithinBoth (length (keys ++ keys_more)) (length (values ++ values_more)) p
  within-more p is = ((stays [] keys keys_more p.0 is.0).0, (stays Null values values_more p.1 is.1).0)

  pub all-within-more : (pairs : List (ℕ × ℕ)) → AllByRecursion (IsWithinBoth (length keys) (length values)) pairs
      → AllByRecursion (IsWithinBoth (length (keys ++ keys_more)) (length (values ++ values_more))) pairs
  all-within-more [] all = tt
  all-within-more (p ∷ pairs) all = (within-more p all.0, all-within-more pairs all.1)

  pub joined-stays : (pairs : List (ℕ × ℕ)) → AllByRecursion (IsWithinBoth (length keys) (length values)) pairs
      → map (joined (keys ++ keys_more) (values ++ values_more)) pairs ≡ map (joined keys values) pairs
  joined-stays [] all = refl
  joined-stays (p ∷ pairs) all =
      ap₂ (λ (r : Row) (rs : List Row). r ∷ rs)
      (ap₂ (λ (r : Row) (v : Value). r ++ v ∷ []) (stays [] keys keys_more p.0 all.0.0).1 (stays Null values values_more p.1 all.0.1).1)
      (joined-stays pairs all.1)

-- ---- pairs of numbers side by side
module _ (keys : List Row) (values : List Value) where
  pub joined-rows : (firsts seconds : List ℕ) → map (joined keys values) (zip firsts seconds) ≡ behind (map (key_at keys) firsts) (map (column values) seconds)
  joined-rows [] seconds = refl
  joined-rows (m ∷ firsts) [] = refl
  joined-rows (m ∷ firsts) (n ∷ seconds) = ap (λ (rs : List Row). (key_at keys m ++ column values n ∷ []) ∷ rs) (joined-rows firsts seconds)

  pub zip-within : (firsts seconds : List ℕ) → AllByRecursion (λ n. n < length keys) firsts → AllByRecursion (λ n. n < length values) seconds
      → AllByRecursion (IsWithinBoth (length keys) (length values)) (zip firsts seconds)
  zip-within [] seconds a b = tt
  zip-within (m ∷ firsts) [] a b = tt
  zip-within (m ∷ firsts) (n ∷ seconds) a b = ((a.0, b.0), zip-within firsts seconds a.1 b.1)

-- the first of all that hold
pub all-front : {X : Type 0} (P : X → Type 0) (count : ℕ) (xs : List X) → AllByRecursion P xs → AllByRecursion P (take count xs)
all-front P zero xs all = tt
all-front P (suc count) [] all = tt
all-front P (suc count) (x ∷ xs) all = (all.0, all-front P count xs all.1)

-- keys of pairs by their numbers
pub named-keys : (keys : List Row) (values : List Value) (pairs : List (ℕ × ℕ)) (numbers : List ℕ) → AllByRecursion (λ n. n < length pairs) numbers
    → map (key_at (map (joined keys values) pairs)) numbers ≡ map (joined keys values) (map (λ n. get_or pairs n (0, 0)) numbers)
named-keys keys values pairs [] all = refl
named-keys keys values pairs (n ∷ numbers) all =
    ap₂ (λ (r : Row) (rs : List Row). r ∷ rs) (get_or-map (joined keys values) pairs n (0, 0) [] all.0) (named-keys keys values pairs numbers all.1)

pub same-length : {X Y : Type 0} (f : X → Y) (xs : List X) (numbers : List ℕ) → AllByRecursion (λ n. n < length xs) numbers → AllByRecursion (λ n. n < length (map f xs)) numbers
same-length f xs [] all = tt
same-length f xs (n ∷ numbers) all = (let here = all.0 in omega (arith, here, length-map xs f), same-length f xs numbers all.1)

-- ---- a stage for more keys
module _ (keys more : List Row) (old new : Stage) (values : List Value) (pairs : List (ℕ × ℕ)) (more_once : IsDistinct same_row more) (extra : List Row) (is_more : more ≡ keys ++ extra)
    (stage : IsStage keys old) (values_are : new.values ≡ with_new same_value old.values values) (pairs_are : new.pairs ≡ with_new same_pair old.pairs pairs)
    (all : AllByRecursion (IsWithinBoth (length more) (length new.values)) pairs) where
  values_extra : (vs : List Value) × (new.values ≡ old.values ++ vs)
  values_extra = let m = met-more same_value old.values values in (m.0, values_are ∙ m.1)

  values_once : IsDistinct same_value new.values
  values_once = subst (IsDistinct same_value) (sym values_are) (new-once same_value Null value-same value-itself old.values values stage.values)

  old_within : AllByRecursion (IsWithinBoth (length more) (length new.values)) old.pairs
  old_within =
      subst (λ (ks : List Row). AllByRecursion (IsWithinBoth (length ks) (length new.values)) old.pairs) (sym is_more)
      (subst (λ (vs : List Value). AllByRecursion (IsWithinBoth (length (keys ++ extra)) (length vs)) old.pairs) (sym values_extra.1)
      (all-within-more keys extra old.values values_extra.0 old.pairs stage.within))

  old_keys : map (joined more new.values) old.pairs ≡ longer keys old
  old_keys =
      ap₂ (λ (ks : List Row) (vs : List Value). map (joined ks vs) old.pairs) is_more values_extra.1
      ∙ joined-stays keys extra old.values values_extra.0 old.pairs stage.within

  -- the keys that it makes are those that it made, and what is new of the others
  pub longer-more : longer more new ≡ with_new same_row (longer keys old) (map (joined more new.values) pairs)
  longer-more =
      ap (map (joined more new.values)) pairs_are
      ∙ new-named same_pair same_row (joined more new.values) (IsWithinBoth (length more) (length new.values)) (joined-agree more new.values more_once values_once) old.pairs pairs old_within all
      ∙ ap (λ (rs : List Row). with_new same_row rs (map (joined more new.values) pairs)) old_keys

  pub stage-more : IsStage more new
  stage-more = record {
    values = values_once;
    within = subst (AllByRecursion (IsWithinBoth (length more) (length new.values))) (sym pairs_are) (all-new same_pair (IsWithinBoth (length more) (length new.values)) old.pairs pairs old_within all);
    once =
        subst (IsDistinct same_row) (sym longer-more)
        (new-once same_row [] same_row-same same_row-refl (longer keys old) (map (joined more new.values) pairs) stage.once);
  }
