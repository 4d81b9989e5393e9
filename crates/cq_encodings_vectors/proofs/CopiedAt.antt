-- What is copied at some places of a whole column, with nothing where NULL stands.
use Rattle.std.proofs.Common.{◌≡◌, ◌≤◌, ◌<◌, ◌⊎◌, ◌+◌, ◌-◌, ◌*◌, ◌∙◌, inl, inr, ℕ, Bool, true, false, List, length, get_or, map, drop, refl, sym, ap, subst, arith}
use Rattle.std.specs.Simd.Lanes.{zip2}
use Rattle.std.proofs.lemmas.Bool.{cases_lt}
use Rattle.std.proofs.lemmas.List.{get_or-drop, get_or-take}
use Rattle.std.proofs.lemmas.Simd.{length-zip2}
use Rattle.cq_values.specs.declared.value.Value.{Value}
use Rattle.cq_encodings_plain.specs.Nulls.{NothingWhere}
use Rattle.cq_encodings_vectors.specs.Parts.{items_of}
use Rattle.cq_encodings_vectors.specs.Places.{AreBelow, NoneIsSet, flags_at, items_at, unless_set, values_at}
use Rattle.cq_encodings_vectors.proofs.AtPlaces.{at-clear, at-few, at-made, at-same, kept-read}

module _ {A : Type 0} (nothing : A) (all : List A) (nulls : List Bool) (places : List ℕ) {xs : List A} {flags : List Bool}
    (clear : NothingWhere nothing nulls all) (copied : xs ≡ items_at all places nothing) (shown : flags ≡ flags_at nulls places) where
  read : xs ≡ map (λ place. unless_set nothing (get_or all place nothing) (get_or nulls place false)) places
  read = copied ∙ kept-read nothing nulls (λ place. get_or all place nothing) clear places

  pub copied-few : length places ≤ 1024 → length xs ≤ 1024
  copied-few = at-few nothing (λ (x : A). x) nothing all nulls places read shown

  pub copied-same : length flags ≡ length xs
  copied-same = at-same nothing (λ (x : A). x) nothing all nulls places read shown

  pub copied-clear : NothingWhere nothing flags xs
  copied-clear = at-clear nothing (λ (x : A). x) nothing all nulls places read shown

  -- what is made of them is what is made of all, at the places
  pub copied-made : (make : A → Bool → Value) → ((x y : A) → make x true ≡ make y true) → length nulls ≡ length all → AreBelow (length all) places
      → zip2 make xs flags ≡ values_at (zip2 make all nulls) places
  copied-made make null long below =
      at-made nothing (λ (x : A). x) nothing all nulls places read shown make null long (zip2 make all nulls) refl
      (subst (λ (n : ℕ). AreBelow n places) (sym (length-zip2 make all nulls (sym long))) below)

-- where no flag is set before a part, nor in it, none is set up to its end
pub clear-more : (flags : List Bool) (k : ℕ) → ((place : ℕ) → place < 1024 * k → get_or flags place false ≡ false) → NoneIsSet (items_of k flags)
    → (place : ℕ) → place < 1024 * (k + 1) → get_or flags place false ≡ false
clear-more flags k before part place lt = by_part (cases_lt place (1024 * k))
  where
    by_part : (place < 1024 * k) ⊎ (1024 * k ≤ place) → get_or flags place false ≡ false
    by_part (inl less) = before place less
    by_part (inr past) =
        sym (get_or-take 1024 (drop (1024 * k) flags) (place - 1024 * k) false (omega (arith, lt, past)) ∙ get_or-drop (1024 * k) flags (place - 1024 * k) false
        ∙ ap (λ (n : ℕ). get_or flags n false) {x = 1024 * k + (place - 1024 * k)} {y = place} (omega (arith, past)))
        ∙ part (place - 1024 * k)
