-- What is kept for the aggregates tells what their rows give.
use Rattle.std.proofs.Common.{◌≡◌, ℕ, zero, suc, ◌+◌, ◌<◌, ◌≤◌, true, List, [], ◌∷◌, ◌++◌, filter, get_or, length, map, min, take, refl, sym, ◌∙◌, ap, ap₂, add-one, arith, Option, Some, None}
use Rattle.std.proofs.lemmas.List.{get_or-map, length-map}
use Rattle.std.proofs.lemmas.List.Quantifiers.{position-Some}
use Rattle.cq_values.specs.declared.value.Value.{Value}
use Rattle.cq_values.specs.Value.{Row}
use Rattle.cq_model_bags.proofs.Totals.{by_test}
use Rattle.cq_model.specs.Condition.{is_null}
use Rattle.cq_model.specs.Expr.{Expr}
use Rattle.cq_model.specs.declared.query.Aggregate.{Aggregate}
use Rattle.cq_model.specs.declared.query.Aggregate.TheVariants.{CountAll, Count, CountDistinct, Sum, Min, Max}
use Rattle.cq_hash_groups.specs.Arguments.{argument}
use Rattle.cq_hash_groups.specs.Groups.{kept_at, kept_count, kept_each, kept_nulls, kept_sum, known, rows_at, slots_at}
use Rattle.cq_hash_groups.specs.Lead.{at_place, first_sum, is_sum, lead_at, slots_of, sum_place, told, told_one}
use Rattle.cq_hash_groups.proofs.Showing.{count-rows}
use Rattle.cq_hash_groups_slots.specs.declared.slots.Slots.{Slots}
use Rattle.cq_hash_groups_slots.specs.declared.slots.Slots.TheVariants.{Counts}
use Rattle.cq_hash_groups_slots.specs.Slots.{no_slots, rows_counted}

-- a value is known or NULL
known-or_null : (vs : List Value) → length (known vs) + length (filter is_null vs) ≡ length vs
known-or_null [] = omega arith
known-or_null (v ∷ vs) = by_test (is_null v)
    (λ k. rw k (omega (arith, known-or_null vs)))
    (λ k. rw k (omega (arith, known-or_null vs)))

module _ (columns : List ℕ) (rows keys : List Row) where
  -- each row of a key has a value that is known or NULL
  rows-kept : (value : Row → Value) (ks : List Row) → rows_counted (kept_each kept_sum value columns rows ks) (kept_each kept_nulls value columns rows ks) ≡ kept_each kept_count (argument CountAll) columns rows ks
  rows-kept value [] = refl
  rows-kept value (k ∷ ks) =
      let of = rows_at columns rows k in
      ap₂ (λ (n : ℕ) (ns : List ℕ). n ∷ ns) (known-or_null (map value of) ∙ length-map of value ∙ sym (count-rows of)) (rows-kept value ks)

  -- with no SUM each aggregate is kept on its own
  told-alone : (aggregates : List Aggregate) → told no_slots aggregates (map (kept_at columns rows keys None) aggregates) ≡ map (slots_at columns rows keys) aggregates
  told-alone [] = refl
  told-alone (CountAll ∷ aggregates) = ap (λ (ss : List Slots). slots_at columns rows keys CountAll ∷ ss) (told-alone aggregates)
  told-alone (Count e ∷ aggregates) = ap (λ (ss : List Slots). slots_at columns rows keys (Count e) ∷ ss) (told-alone aggregates)
  told-alone (CountDistinct e ∷ aggregates) = ap (λ (ss : List Slots). slots_at columns rows keys (CountDistinct e) ∷ ss) (told-alone aggregates)
  told-alone (Sum e ∷ aggregates) = ap (λ (ss : List Slots). slots_at columns rows keys (Sum e) ∷ ss) (told-alone aggregates)
  told-alone (Min e ∷ aggregates) = ap (λ (ss : List Slots). slots_at columns rows keys (Min e) ∷ ss) (told-alone aggregates)
  told-alone (Max e ∷ aggregates) = ap (λ (ss : List Slots). slots_at columns rows keys (Max e) ∷ ss) (told-alone aggregates)

  -- beside a SUM the NULLs make up the rows
  told-beside : (e : Expr) (aggregates : List Aggregate) → told (slots_at columns rows keys (Sum e)) aggregates (map (kept_at columns rows keys (Some (Sum e))) aggregates) ≡ map (slots_at columns rows keys) aggregates
  told-beside e [] = refl
  told-beside e (CountAll ∷ aggregates) = ap₂ (λ (s : Slots) (ss : List Slots). s ∷ ss) (ap Counts (rows-kept (argument (Sum e)) keys)) (told-beside e aggregates)
  told-beside e (Count f ∷ aggregates) = ap (λ (ss : List Slots). slots_at columns rows keys (Count f) ∷ ss) (told-beside e aggregates)
  told-beside e (CountDistinct f ∷ aggregates) = ap (λ (ss : List Slots). slots_at columns rows keys (CountDistinct f) ∷ ss) (told-beside e aggregates)
  told-beside e (Sum f ∷ aggregates) = ap (λ (ss : List Slots). slots_at columns rows keys (Sum f) ∷ ss) (told-beside e aggregates)
  told-beside e (Min f ∷ aggregates) = ap (λ (ss : List Slots). slots_at columns rows keys (Min f) ∷ ss) (told-beside e aggregates)
  told-beside e (Max f ∷ aggregates) = ap (λ (ss : List Slots). slots_at columns rows keys (Max f) ∷ ss) (told-beside e aggregates)

  -- what is told beside an aggregate that is a SUM
  told-sum : (aggregates : List Aggregate) (lead : Aggregate) → is_sum lead ≡ true → told (kept_at columns rows keys (Some lead) lead) aggregates (map (kept_at columns rows keys (Some lead)) aggregates) ≡ map (slots_at columns rows keys) aggregates
  told-sum aggregates CountAll is = absurd (cc is)
  told-sum aggregates (Count e) is = absurd (cc is)
  told-sum aggregates (CountDistinct e) is = absurd (cc is)
  told-sum aggregates (Sum e) is = told-beside e aggregates
  told-sum aggregates (Min e) is = absurd (cc is)
  told-sum aggregates (Max e) is = absurd (cc is)

  -- whichever place the lead has
  told-at : (aggregates : List Aggregate) (place : Option ℕ) → sum_place aggregates ≡ place
      → told (slots_of (map (kept_at columns rows keys (at_place aggregates place)) aggregates) place) aggregates (map (kept_at columns rows keys (at_place aggregates place)) aggregates) ≡ map (slots_at columns rows keys) aggregates
  told-at aggregates None e = told-alone aggregates
  told-at aggregates (Some k) e =
      let found = position-Some is_sum aggregates k CountAll e in
      let lead = get_or aggregates k CountAll in
      let kept : List Slots = map (kept_at columns rows keys (Some lead)) aggregates in
      ap (λ (s : Slots). told s aggregates kept) (get_or-map (kept_at columns rows keys (Some lead)) aggregates k CountAll no_slots found.0)
      ∙ told-sum aggregates lead found.1

  pub told-are : (aggregates : List Aggregate) (kept : List Slots) → kept ≡ map (kept_at columns rows keys (first_sum aggregates)) aggregates → told (lead_at aggregates kept) aggregates kept ≡ map (slots_at columns rows keys) aggregates
  told-are aggregates kept are =
      ap (λ (ss : List Slots). told (lead_at aggregates ss) aggregates ss) are ∙ told-at aggregates (sum_place aggregates) refl

-- the next aggregate is told
told-more : (lead : Slots) (aggregates : List Aggregate) (slots : List Slots) (i : ℕ) (a : Aggregate) (s : Slots) → i < length aggregates → i < length slots
    → told lead (take (suc i) aggregates) slots ≡ told lead (take i aggregates) slots ++ told_one lead (get_or aggregates i a) (get_or slots i s) ∷ []
told-more lead [] slots i a s g h = absurd (omega (arith, g))
told-more lead (b ∷ aggregates) [] i a s g h = absurd (omega (arith, h))
told-more lead (b ∷ aggregates) (t ∷ slots) zero a s g h = refl
told-more lead (b ∷ aggregates) (t ∷ slots) (suc i) a s g h = ap (λ (ss : List Slots). told_one lead b t ∷ ss) (told-more lead aggregates slots i a s (omega (arith, g)) (omega (arith, h)))

pub told-next : (lead : Slots) (aggregates : List Aggregate) (slots : List Slots) (i : ℕ) (a : Aggregate) (s : Slots) → i < length aggregates → i < length slots
    → told lead (take (i + 1) aggregates) slots ≡ told lead (take i aggregates) slots ++ told_one lead (get_or aggregates i a) (get_or slots i s) ∷ []
told-next lead aggregates slots i a s g h = rw (add-one i) (told-more lead aggregates slots i a s g h)

-- and at the end of the one list or the other all are
pub told-done : (lead : Slots) (aggregates : List Aggregate) (slots : List Slots) (n : ℕ) → min (length slots) (length aggregates) ≤ n → told lead (take n aggregates) slots ≡ told lead aggregates slots
told-done lead [] slots zero h = refl
told-done lead [] slots (suc n) h = refl
told-done lead (a ∷ aggregates) [] zero h = refl
told-done lead (a ∷ aggregates) [] (suc n) h = refl
told-done lead (a ∷ aggregates) (s ∷ slots) zero h = absurd (omega (arith, h))
told-done lead (a ∷ aggregates) (s ∷ slots) (suc n) h = ap (λ (ss : List Slots). told_one lead a s ∷ ss) (told-done lead aggregates slots n (omega (arith, h)))
