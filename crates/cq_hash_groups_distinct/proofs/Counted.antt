-- A value counted in the group of its number.
use Rattle.std.proofs.Common.{◌≡◌, ℕ, zero, suc, ◌+◌, ◌<◌, ◌≤◌, pos, true, false, not, ◌&&◌, cond, List, [], ◌∷◌, filter, length, get_or, set, take, sym, ◌∙◌, ap, arith, inl, inr}
use Rattle.std.proofs.lemmas.Bool.{and_from, and_left, and_right, cases_eq, cases_lt}
use Rattle.std.proofs.lemmas.List.{get_or_past, get_or-set_same, get_or-set_other, length-map, take_more}
use Rattle.cq_values.specs.declared.value.Value.{Value}
use Rattle.cq_values.specs.declared.value.Value.TheVariants.{Number}
use Rattle.cq_values.specs.Value.{Row, column}
use Rattle.cq_model_bags.proofs.Lists.{fewer}
use Rattle.cq_model_bags.proofs.Totals.{by_test}
use Rattle.cq_model.specs.Condition.{is_null}
use Rattle.cq_hash_keys_values.proofs.ValueKeys.{value-same}
use Rattle.cq_hash_keys.specs.Keys.{key_at}
use Rattle.cq_hash_groups_distinct.specs.Sets.{AreAllWithin, AreSizes, CountsValue, is_number_of, is_of, set_of}
use Rattle.cq_hash_groups_distinct.proofs.KeyOf.{number-itself, number-other, size-push}

module _ (number value : Value) (counts : List ℕ) where
  -- nothing is counted
  uncounted : (group : ℕ) → is_number_of group number && not (is_null value) ≡ false → get_or counts group 0 ≡ get_or counts group 0 + cond (is_number_of group number && not (is_null value)) 1 0
  uncounted group other =
      let same : get_or counts group 0 + 0 ≡ get_or counts group 0 = omega arith in
      sym (ap (λ b. get_or counts group 0 + cond b 1 0) other ∙ same)

  pub counts-null : is_null value ≡ true → CountsValue number value counts counts
  counts-null null = λ group lt. uncounted group (and_right (is_number_of group number) (not (is_null value)) (ap not null))

  pub counts-none : ((group : ℕ) → group < length counts → number ≡ Number (pos group) → ⊥) → CountsValue number value counts counts
  counts-none none = λ group lt.
      uncounted group (and_left (is_number_of group number) (not (is_null value)) (by_test (is_number_of group number)
      (λ k. absurd (none group lt (value-same number (Number (pos group)) k)))
      (λ k. k)))

  -- the value is counted in the group
  pub counts-at : (n : ℕ) → number ≡ Number (pos n) → is_null value ≡ false → n < length counts → CountsValue number value counts (set counts n (get_or counts n 0 + 1))
  counts-at n is there within = λ group lt. elim (cases_eq group n) [
    | inl e ↦
        let yes : is_number_of group number && not (is_null value) ≡ true =
        and_from (is_number_of group number) (not (is_null value)) (ap (is_number_of group) is ∙ ap (λ (m : ℕ). is_number_of group (Number (pos m))) (sym e) ∙ number-itself group) (ap not there) in
        ap (λ (g : ℕ). get_or (set counts n (get_or counts n 0 + 1)) g 0) e ∙ get_or-set_same counts n (get_or counts n 0 + 1) 0 within
        ∙ ap (λ (g : ℕ). get_or counts g 0 + 1) (sym e) ∙ sym (ap (λ b. get_or counts group 0 + cond b 1 0) yes)
    | inr apart ↦
        get_or-set_other counts n group (get_or counts n 0 + 1) 0 apart
        ∙ uncounted group (and_left (is_number_of group number) (not (is_null value)) (ap (is_number_of group) is ∙ number-other group n apart))
  ]

-- as many values as keys at most
pub few-values : (keys : List Row) (group : ℕ) → length (set_of keys group) ≤ length keys
few-values keys group = omega (arith, length-map (filter (is_of group) keys) (λ (key : Row). column key 1), fewer (is_of group) keys)

-- one key more is counted
pub sizes-next : (keys : List Row) (at : ℕ) (old new : List ℕ) (number value : Value) → at < length keys → number ≡ column (key_at keys at) 0 → value ≡ column (key_at keys at) 1
    → length new ≡ length old → AreSizes (take at keys) old → CountsValue number value old new → AreSizes (take (at + 1) keys) new
sizes-next keys at old new number value lt first second same sizes counts = λ group within.
    let before : group < length old = omega (arith, within, same) in
    counts group before
    ∙ ap (λ (n : ℕ). n + cond (is_number_of group number && not (is_null value)) 1 0) (sizes group before)
    ∙ ap (λ (v : Value). length (set_of (take at keys) group) + cond (is_number_of group v && not (is_null value)) 1 0) first
    ∙ ap (λ (v : Value). length (set_of (take at keys) group) + cond (is_number_of group (column (key_at keys at) 0) && not (is_null v)) 1 0) second
    ∙ sym (ap (λ (ks : List Row). length (set_of ks group)) (take_more keys at [] lt) ∙ size-push (take at keys) (key_at keys at) group)

-- so far there are fewer than there can be
pub sizes-within : (keys : List Row) (at most : ℕ) (counts : List ℕ) → at ≤ most → AreSizes (take at keys) counts → AreAllWithin most counts
sizes-within keys at most counts le sizes = λ group. elim (cases_lt group (length counts)) [
  | inl lt ↦ omega (arith, le, sizes group lt, few-values (take at keys) group, short at keys)
  | inr past ↦ omega (arith, get_or_past counts group 0 past)
]
  where
    short : (n : ℕ) (ks : List Row) → length (take n ks) ≤ n
    short zero ks = omega arith
    short (suc n) [] = omega arith
    short (suc n) (k ∷ ks) = omega (arith, short n ks)
