-- Places that rise, and those of them at which a condition is True.
use Rattle.std.proofs.Common.{◌≡◌, ℕ, zero, suc, ◌+◌, ◌-◌, ◌<◌, ◌≤◌, Bool, false, cond, List, [], ◌∷◌, ◌++◌, length, get_or, refl, sym, ap, subst, ◌∙◌, ◌⊎◌, inl, inr, arith, append-nil, set, take, take-suc-set}
use Rattle.std.specs.List.{filter, range_with_len}
use Rattle.std.proofs.lemmas.Bool.{cases_lt}
use Rattle.std.proofs.lemmas.List.Elements.{All-filter, All-from_get_or, All-get_or, filter-append}
use Rattle.std.proofs.lemmas.List.FromFn.{get_or-range_with_len, length-range_with_len}
use Rattle.std.proofs.lemmas.List.Kept.{IsStrictlyIncreasing-filter}
use lib.ListN.{get_or-eq_default}
use Rattle.cq_values.specs.declared.truth.Truth.{Truth}
use Rattle.cq_values.specs.declared.truth.Truth.TheVariants.{Unknown}
use Rattle.cq_values.specs.Truth.{is_true}
use Rattle.cq_vectors_masks.specs.Selection.{AreRising, is_true_at, where_true}
use Rattle.cq_vectors_masks.specs.Walk.{all_places}
use Rattle.cq_vectors_masks.proofs.WalkLemmas.{range_with_len-add}

-- one place more is written
pub count_step : (to : List ℕ) (i : ℕ) → i < length to → take i to ≡ range_with_len 0 i → take (i + 1) (set to i i) ≡ range_with_len 0 (i + 1)
count_step to i lt so_far =
    let next : i + 1 ≡ suc i = omega arith in
    let from : 0 + i ≡ i = omega arith in
    ap (λ (m : ℕ). take m (set to i i)) next
    ∙ take-suc-set to i i lt
    ∙ ap (λ l. l ++ i ∷ []) so_far
    ∙ sym (range_with_len-add 0 i 1 ∙ ap (λ (a : ℕ). range_with_len 0 i ++ a ∷ []) from)

abbrev IsPlace : ℕ → Type 0
IsPlace place = place < 1024

-- what a test keeps of rising places rises
pub AreRising-filter : (p : ℕ → Bool) (xs : List ℕ) → AreRising xs → AreRising (filter p xs)
AreRising-filter p xs h = (IsStrictlyIncreasing-filter p xs h.0, λ k. small k (cases_lt k (length (filter p xs))))
  where
    small : (k : ℕ) → (k < length (filter p xs)) ⊎ (length (filter p xs) ≤ k) → IsPlace (get_or (filter p xs) k 0)
    small k (inl lt) = All-get_or IsPlace (filter p xs) k 0 lt (All-filter p IsPlace xs (All-from_get_or IsPlace xs 0 (λ i lt. h.1 i)))
    small k (inr le) = subst IsPlace (sym (get_or-eq_default (filter p xs) 0 le)) (omega arith)

-- the first places rise
pub AreRising-range_with_len : (n : ℕ) → n ≤ 1024 → AreRising (range_with_len 0 n)
AreRising-range_with_len n few = (λ k lt. rises k (omega (arith, length-range_with_len 0 n)), λ k. small k (cases_lt k n))
  where
    rises : (k : ℕ) → k + 1 < n → get_or (range_with_len 0 n) k 0 < get_or (range_with_len 0 n) (k + 1) 0
    rises k lt = omega (arith, get_or-range_with_len 0 n k 0 (omega arith), get_or-range_with_len 0 n (k + 1) 0 lt)

    small : (k : ℕ) → (k < n) ⊎ (n ≤ k) → IsPlace (get_or (range_with_len 0 n) k 0)
    small k (inl lt) = omega (arith, get_or-range_with_len 0 n k 0 lt)
    small k (inr le) =
        let past : length (range_with_len 0 n) ≤ k = omega (arith, length-range_with_len 0 n) in
        subst IsPlace (sym (get_or-eq_default (range_with_len 0 n) 0 past)) (omega arith)

pub all_rising : AreRising all_places
unfolding all_places
all_rising = AreRising-range_with_len 1024 (omega arith)

-- a test that fails from a place on keeps nothing from there on
none_kept : (p : ℕ → Bool) (a n : ℕ) → ((i : ℕ) → a ≤ i → p i ≡ false) → filter p (range_with_len a n) ≡ []
none_kept p a zero fails = refl
none_kept p a (suc n) fails =
    ap (λ t. cond t (a ∷ filter p (range_with_len (a + 1) n)) (filter p (range_with_len (a + 1) n))) (fails a (omega arith))
    ∙ none_kept p (a + 1) n (λ i le. fails i (omega arith))

-- past its end a mask is True nowhere
pub where_true-length : (truths : List Truth) → length truths ≤ 1024 → where_true truths all_places ≡ where_true truths (range_with_len 0 (length truths))
unfolding all_places
where_true-length truths few =
    let n = length truths in
    let rest = 1024 - n in
    let whole : 1024 ≡ n + rest = omega arith in
    let from : 0 + n ≡ n = omega arith in
    ap (λ (m : ℕ). where_true truths (range_with_len 0 m)) whole
    ∙ ap (where_true truths) (range_with_len-add 0 n rest ∙ ap (λ (a : ℕ). range_with_len 0 n ++ range_with_len a rest) from)
    ∙ filter-append (is_true_at truths) (range_with_len 0 n) (range_with_len n rest)
    ∙ ap (λ l. where_true truths (range_with_len 0 n) ++ l) (none_kept (is_true_at truths) n rest (λ i le. ap is_true (get_or-eq_default truths Unknown le)))
    ∙ append-nil (where_true truths (range_with_len 0 n))
