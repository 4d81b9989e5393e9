-- Values that are read from a place on.
use Rattle.std.proofs.Common.{◌≡◌, ℕ, ◌+◌, ◌-◌, ◌^◌, ◌<◌, ◌≤◌, ◌⊎◌, inl, inr, List, [], ◌∷◌, ◌++◌, length, get_or, min, take, drop, sym, ap, ◌∙◌, arith}
use Rattle.std.proofs.lemmas.Bool.{cases_lt}
use Rattle.std.proofs.lemmas.List.{get_or-drop, length-drop, take_all, take_more}
use Rattle.cq_values.specs.declared.value.Value.{Value}
use Rattle.cq_values.specs.declared.value.Value.TheVariants.{Null}

module _ (values : List Value) (start place : ℕ) where
  -- one value more
  pub read_more : start ≤ place → place < length values → take (place - start) (drop start values) ++ get_or values place Null ∷ [] ≡ take (place + 1 - start) (drop start values)
  read_more from within =
      let k = place - start in
      sym (ap (λ (n : ℕ). take n (drop start values)) {x = place + 1 - start} {y = k + 1} (omega (arith, from))
      ∙ take_more (drop start values) k Null (omega (arith, from, within, length-drop start values))
      ∙ ap (λ (v : Value). take k (drop start values) ++ v ∷ [])
      (get_or-drop start values k Null ∙ ap (λ (n : ℕ). get_or values n Null) {x = start + k} {y = place} (omega (arith, from))))

  -- all that are left, or 1,024
  pub read_all : (end past : ℕ) → end ≡ min (length values) past → past ≡ min (start + 1024) (2 ^ 64 - 1) → length values < 2 ^ 64 → end ≤ place → (start ≤ end → place ≤ end)
      → take (place - start) (drop start values) ≡ take 1024 (drop start values)
  read_all end past is_end is_past fits done whole = by_length (cases_lt (length values) (start + 1024))
    where
      by_length : (length values < start + 1024) ⊎ (start + 1024 ≤ length values) → take (place - start) (drop start values) ≡ take 1024 (drop start values)
      by_length (inl lt) =
          take_all (place - start) (drop start values) (omega (arith, length-drop start values, lt, is_end, is_past, fits, done))
          ∙ sym (take_all 1024 (drop start values) (omega (arith, length-drop start values, lt)))
      by_length (inr le) =
          let last : place ≤ end = whole (omega (arith, le, is_end, is_past, fits)) in
          ap (λ (n : ℕ). take n (drop start values)) {x = place - start} {y = 1024} (omega (arith, le, is_end, is_past, fits, done, last))
