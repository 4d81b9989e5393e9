-- Days above a base at some places, none of which is NULL.
use Rattle.std.proofs.Common.{◌≡◌, ◌∙◌, ◌+ℤ◌, ℕ, ℤ, pos, Bool, false, List, length, get_or, map, refl, sym, ap, subst, arith}
use Rattle.std.specs.Simd.Lanes.{zip2}
use Rattle.std.proofs.lemmas.Simd.{length-zip2}
use Rattle.cq_values.specs.Days.{IsDay}
use Rattle.cq_vectors_stored.specs.Columns.{AreDays, day_unless}
use Rattle.cq_vectors_stored.specs.LentColumns.{DaysAbove, day_above, days_above}
use Rattle.cq_encodings_vectors.specs.Places.{AreBelow, NoneIsSet, flags_at, number_of_place, raised_at, unless_set, values_at}
use Rattle.cq_encodings_vectors.proofs.AtPlaces.{at-facts, at-made, clear-kept-at}

module _ (base : ℤ) (offsets : List ℕ) (nulls : List Bool) (places : List ℕ) {number : ℤ} {days : List ℤ} {flags : List Bool} (same : number ≡ base)
    (raised : days ≡ raised_at number offsets places) (shown : flags ≡ flags_at nulls places) (clear : NoneIsSet flags) where
  read : days ≡ map (λ place. unless_set (pos 0) (number_of_place base offsets place) (get_or nulls place false)) places
  read =
      raised ∙ ap (λ (b : ℤ). map (number_of_place b offsets) places) same
      ∙ clear-kept-at (pos 0) nulls (number_of_place base offsets) places (subst NoneIsSet shown clear)

  pub days-are : DaysAbove base offsets → AreDays days
  days-are fit = at-facts (pos 0) (λ (offset : ℕ). base +ℤ pos offset) 0 offsets nulls places read shown IsDay (omega arith, omega arith) fit

  pub days-made : length nulls ≡ length offsets → AreBelow (length offsets) places → zip2 day_unless days flags ≡ values_at (days_above base offsets nulls) places
  days-made long below =
      at-made (pos 0) (λ (offset : ℕ). base +ℤ pos offset) 0 offsets nulls places read shown day_unless (λ x y. refl) long (days_above base offsets nulls) refl
      (subst (λ (n : ℕ). AreBelow n places) (sym (length-zip2 (day_above base) offsets nulls (sym long))) below)
