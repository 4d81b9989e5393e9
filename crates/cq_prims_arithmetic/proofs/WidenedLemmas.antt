-- Numbers above a base, as numbers of 64 bits.
use Rattle.std.proofs.Common.{◌≡◌, ℕ, zero, suc, ◌+◌, ◌<◌, ℤ, Bool, List, [], ◌∷◌, ◌++◌, map, length, get_or, take, refl, sym, subst, ap, ◌∙◌}
use Rattle.std.specs.Int.{w64}
use lib.Lanes.{zip2}
use Rattle.std.proofs.lemmas.List.{length-map, map-append, take_more}
use Rattle.std.proofs.lemmas.Simd.{length-zip2}
use Rattle.cq_model.specs.Condition.{is_null}
use Rattle.cq_values.specs.declared.value.Value.{Value}
use Rattle.cq_vectors_stored.specs.Columns.{AllFit, ZeroWhere, number_unless}
use Rattle.cq_vectors_stored.specs.LentColumns.{FitAbove, number_above}
use Rattle.cq_prims_arithmetic.specs.Operation.{zero_if}
use Rattle.cq_prims_arithmetic.specs.Sides.{above}
use Rattle.cq_prims_arithmetic.proofs.ColumnLemmas.{zero_cleared, zero_fits}

-- numbers that fit above the base fit
pub fit_above : (base : ℤ) (xs : List ℕ) → FitAbove base xs → AllFit w64 (map (above base) xs)
fit_above base [] fit k = zero_fits
fit_above base (x ∷ xs) fit zero = fit 0
fit_above base (x ∷ xs) fit (suc k) = fit_above base xs (λ j. fit (suc j)) k

-- the numbers with their NULLs are the values above the base
pub values_above : (base : ℤ) (xs : List ℕ) (fs : List Bool) → zip2 number_unless (map (above base) xs) fs ≡ zip2 (number_above base) xs fs
values_above base [] fs = refl
values_above base (x ∷ xs) [] = refl
values_above base (x ∷ xs) (f ∷ fs) = ap (λ l. number_unless (above base x) f ∷ l) (values_above base xs fs)

-- one number more
pub above_more : (base : ℤ) (xs : List ℕ) (i : ℕ) → i < length xs → map (above base) (take i xs) ++ above base (get_or xs i 0) ∷ [] ≡ map (above base) (take (i + 1) xs)
above_more base xs i lt = sym (ap (map (above base)) (take_more xs i 0 lt) ∙ map-append (above base) (take i xs) (get_or xs i 0 ∷ []))

-- there is a flag for each number
pub made-long : (f : ℕ → ℤ) (offsets : List ℕ) (flags : List Bool) {made : List ℤ} → made ≡ map f offsets → length flags ≡ length offsets → length flags ≡ length made
made-long f offsets flags is same = same ∙ sym (ap length is ∙ length-map offsets f)

-- numbers above a base, of which those under a NULL are cleared
module _ (f : ℕ → ℤ) (offsets : List ℕ) (flags : List Bool) {made cleared : List ℤ} (is : made ≡ map f offsets) (of : cleared ≡ zip2 zero_if made flags) (same : length flags ≡ length offsets) where
  pub cleared-long : length cleared ≡ length flags
  cleared-long =
      let long = made-long f offsets flags is same in
      ap length of ∙ length-zip2 zero_if made flags (sym long) ∙ sym long

  pub cleared-zero : ZeroWhere flags cleared
  cleared-zero = subst (ZeroWhere flags) (sym of) (zero_cleared made flags)

-- there is a flag for each offset
pub flags-long : (offsets : List ℕ) (flags : List Bool) (values : List Value) → flags ≡ map is_null values → length offsets ≡ length values → length flags ≡ length offsets
flags-long offsets flags values is long = ap length is ∙ length-map values is_null ∙ sym long
