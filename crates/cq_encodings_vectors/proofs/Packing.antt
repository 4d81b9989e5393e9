-- Numbers and days above a least one, as vectors name them.
use Rattle.std.proofs.Common.{◌≡◌, true, false, ℕ, ℤ, pos, ◌+ℤ◌, ◌≤◌, Bool, List, length, get_or, refl, sym, ap, ap₂, subst, ◌∙◌, arith, FitsSigned, w32, w64}
use Rattle.std.specs.Simd.Lanes.{zip2}
use Rattle.std.proofs.Math.IntN.{+ℤ_idr}
use Rattle.std.proofs.lemmas.Int.{ints}
use Rattle.std.proofs.lemmas.List.{get_or_past}
use Rattle.cq_values.specs.Days.{IsDay}
use Rattle.cq_values.specs.declared.value.Value.{Value}
use Rattle.cq_vectors_stored.specs.Columns.{day_unless, number_unless}
use Rattle.cq_vectors_stored.specs.LentColumns.{day_above, days_above, number_above, numbers_above}
use Rattle.cq_encodings_plain.specs.Kind.{IsOf, datum}
use Rattle.cq_encodings_plain.specs.Nulls.{NothingWhere}
use Rattle.cq_encodings_plain.specs.declared.kind.Kind.{Kind}
use Rattle.cq_encodings_plain.specs.declared.kind.Kind.TheVariants.{Numbers, Days}
use Rattle.cq_encodings_numbers.proofs.Datums.{day_is}
use Rattle.cq_encodings_numbers.specs.Packed.{AreOffsets, FitAbove, above}
use Rattle.cq_encodings_vectors.specs.Parts.{items_of}
use Rattle.cq_encodings_vectors.proofs.PartsLemmas.{clear-shown, facts-part, few-part, length-made, same-part, zip2-made, zip2-part, zip2-same}

-- what a number stands for in a column of numbers
pub number_datum : (n : ℤ) (b : Bool) → number_unless n b ≡ datum Numbers n b
number_datum n true = refl
number_datum n false = refl

-- and that of a day in a column of days
day_datum : (n : ℤ) → IsDay n → (b : Bool) → day_unless n b ≡ datum Days n b
day_datum n day true = refl
day_datum n day false = rw (day_is n day) refl

-- the number of a day is kept in 32 bits
pub day_fits : (n : ℤ) → IsDay n → FitsSigned w32 n
day_fits n day = grind (arith, ints, day.0, day.1)

fits_of_kind : (kind : Kind) (n : ℤ) → IsOf kind n → FitsSigned w64 n
fits_of_kind Numbers n fits = fits
fits_of_kind Days n day = grind (arith, ints, day.0, day.1)

-- what holds of each number above a base holds of the base
pub at_base : (P : ℤ → Type 0) (base : ℤ) (offsets : List ℕ) → ((j : ℕ) → P (base +ℤ pos (get_or offsets j 0))) → P base
at_base P base offsets facts =
    subst P (ap (λ (n : ℕ). base +ℤ pos n) (get_or_past offsets (length offsets) 0 (omega arith)) ∙ +ℤ_idr base) (facts (length offsets))

-- as many values as offsets
pub packed-long : (kind : Kind) (least : ℤ) (all : List ℕ) (flags : List Bool) → AreOffsets kind least all flags → (values : List Value) → values ≡ zip2 (datum kind) (above least all) flags → length values ≡ length all
packed-long kind least all flags are values whole = ap length whole ∙ length-made (datum kind) (λ offset. least +ℤ pos offset) all flags are.long

-- numbers of a kind above a least one are numbers
pub numbers_whole : (kind : Kind) (least : ℤ) (all : List ℕ) (flags : List Bool) → kind ≡ Numbers → zip2 (datum kind) (above least all) flags ≡ numbers_above least all flags
numbers_whole kind least all flags numbers =
    ap (λ (of : Kind). zip2 (datum of) (above least all) flags) numbers ∙ zip2-made (datum Numbers) (λ offset. least +ℤ pos offset) all flags
    ∙ zip2-same (λ offset b. datum Numbers (least +ℤ pos offset) b) (number_above least) 0 all flags (λ j b. sym (number_datum (least +ℤ pos (get_or all j 0)) b))

-- or days
pub days_whole : (kind : Kind) (least : ℤ) (all : List ℕ) (flags : List Bool) → kind ≡ Days → FitAbove kind least all → zip2 (datum kind) (above least all) flags ≡ days_above least all flags
days_whole kind least all flags days fit =
    ap (λ (of : Kind). zip2 (datum of) (above least all) flags) days ∙ zip2-made (datum Days) (λ offset. least +ℤ pos offset) all flags
    ∙ zip2-same (λ offset b. datum Days (least +ℤ pos offset) b) (day_above least) 0 all flags
    (λ j b. sym (day_datum (least +ℤ pos (get_or all j 0)) (subst (λ (of : Kind). FitAbove of least all) days fit j) b))

module _ (k : ℕ) {kind : Kind} {least : ℤ} {all : List ℕ} {flags : List Bool} (are : AreOffsets kind least all flags) where
  -- the least number is kept in 64 bits
  pub least_fits : FitsSigned w64 least
  least_fits = fits_of_kind kind least (at_base (IsOf kind) least all are.fit)

  module _ {xs : List ℕ} {plane : List Bool} (is : xs ≡ items_of k all) (shown : plane ≡ items_of k flags) where
    pub packed-few : length xs ≤ 1024
    packed-few = omega (arith, ap length is, few-part k all)

    pub packed-same : length plane ≡ length xs
    packed-same = ap length shown ∙ same-part 0 k all flags are.long ∙ sym (ap length is)

    pub packed-clear : NothingWhere 0 plane xs
    packed-clear = clear-shown 0 k all flags are.long is shown are.clear

    module _ (n : ℤ) (back : n ≡ least) where
      -- what holds of each number holds of those of the part
      packed-facts : (P : ℤ → Type 0) → ((j : ℕ) → P (least +ℤ pos (get_or all j 0))) → (j : ℕ) → P (n +ℤ pos (get_or xs j 0))
      packed-facts P facts j =
          subst (λ (m : ℤ). P (m +ℤ pos (get_or xs j 0))) (sym back)
          (subst (λ (ys : List ℕ). P (least +ℤ pos (get_or ys j 0))) (sym is) (facts-part k all (λ (x : ℕ). P (least +ℤ pos x)) 0 facts j))

      pub packed-fit : kind ≡ Numbers → (j : ℕ) → FitsSigned w64 (n +ℤ pos (get_or xs j 0))
      packed-fit numbers = packed-facts (FitsSigned w64) (subst (λ (of : Kind). FitAbove of least all) numbers are.fit)

      pub packed-are_days : kind ≡ Days → (j : ℕ) → IsDay (n +ℤ pos (get_or xs j 0))
      packed-are_days days = packed-facts IsDay (subst (λ (of : Kind). FitAbove of least all) days are.fit)

      module _ (values : List Value) (whole : values ≡ zip2 (datum kind) (above least all) flags) where
        of_kind : (of : Kind) → kind ≡ of → zip2 (λ offset b. datum of (least +ℤ pos offset) b) all flags ≡ values
        of_kind of same = sym (whole ∙ ap (λ (other : Kind). zip2 (datum other) (above least all) flags) same ∙ zip2-made (datum of) (λ offset. least +ℤ pos offset) all flags)

        -- the numbers of a part
        pub packed-numbers : kind ≡ Numbers → zip2 (number_above n) xs plane ≡ items_of k values
        packed-numbers numbers =
            ap (λ (m : ℤ). zip2 (number_above m) xs plane) back ∙ ap₂ (zip2 (number_above least)) is shown
            ∙ zip2-part 0 k all flags are.long (number_above least) (λ offset b. datum Numbers (least +ℤ pos offset) b) (λ j b. number_datum (least +ℤ pos (get_or all j 0)) b)
            ∙ ap (items_of k) (of_kind Numbers numbers)

        -- the days of a part
        pub packed-days : kind ≡ Days → zip2 (day_above n) xs plane ≡ items_of k values
        packed-days days =
            let fit : FitAbove Days least all = subst (λ (of : Kind). FitAbove of least all) days are.fit in
            ap (λ (m : ℤ). zip2 (day_above m) xs plane) back ∙ ap₂ (zip2 (day_above least)) is shown
            ∙ zip2-part 0 k all flags are.long (day_above least) (λ offset b. datum Days (least +ℤ pos offset) b) (λ j b. day_datum (least +ℤ pos (get_or all j 0)) (fit j) b)
            ∙ ap (items_of k) (of_kind Days days)
