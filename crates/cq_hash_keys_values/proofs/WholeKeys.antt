-- Values that stand as whole numbers, as keys.
use Rattle.std.proofs.Common.{◌≡◌, ℕ, suc, ℤ, pos, ◌+ℤ◌, Bool, true, false, List, [], ◌∷◌, map, take, length, get_or, refl, sym, ◌∙◌, ap, ap₂, arith}
use Rattle.std.specs.Int.{w64}
use Rattle.std.specs.Prelude.{FitsSigned}
use Rattle.std.proofs.lemmas.Simd.{map-map}
use lib.Lanes.{zip2}
use Rattle.cq_values.specs.declared.value.Value.{Value}
use Rattle.cq_vectors_stored.specs.Columns.{day_unless}
use Rattle.cq_vectors_stored.specs.LentColumns.{day_above, number_above}
use Rattle.cq_hash_keys_values.specs.declared.dictionary.Dictionary.{Dictionary}
use Rattle.cq_hash_keys_values.specs.declared.kind.Kind.{Kind}
use Rattle.cq_hash_keys_values.specs.declared.kind.Kind.TheVariants as kind
use Rattle.cq_hash_keys_values.specs.Dictionary.{number_in}
use Rattle.cq_hash_keys_values.specs.Whole.{StandsAs, whole_value, window_of}
use Rattle.cq_hash_keys_values.specs.Window.{number_at}
use Rattle.cq_hash_keys_values.proofs.ValueKeys.{fits-true}

-- the window of the kind has the number of the value
pub number-in_window : (d : Dictionary) (k : Kind) (n : ℤ) → FitsSigned w64 n → number_in d (whole_value k n) ≡ number_at (window_of d k) n
number-in_window d kind.Number n fits = rw (fits-true n fits) refl
number-in_window d kind.Day n fits = refl

-- where no flag is set each value is what its part stands for
without_flags : {A : Type 0} (value : A → Bool → Value) (plain : A → Value) → ((x : A) → value x false ≡ plain x) → (xs : List A) (fs : List Bool) → length fs ≡ length xs → ((k : ℕ) → get_or fs k false ≡ false)
    → zip2 value xs fs ≡ map plain xs
without_flags value plain is [] fs same clear = refl
without_flags value plain is (x ∷ xs) [] same clear = absurd (omega arith)
without_flags value plain is (x ∷ xs) (true ∷ fs) same clear = absurd (cc (clear 0))
without_flags value plain is (x ∷ xs) (false ∷ fs) same clear = ap₂ (λ v l. v ∷ l) (is x) (without_flags value plain is xs fs (omega arith) (λ k. clear (suc k)))

-- the number at the offset above the base
abbrev pub above : ℤ → ℕ → ℤ
above base o = base +ℤ pos o

module _ (base : ℤ) (offsets : List ℕ) (fs : List Bool) (values : List Value) (written : List ℤ) (long : length offsets ≡ length values) (same : length fs ≡ length offsets)
    (clear : (k : ℕ) → get_or fs k false ≡ false) (put : take (length offsets) written ≡ map (above base) offsets) where
  stands : (k : Kind) → values ≡ map (λ o. whole_value k (above base o)) offsets → StandsAs k written values
  stands k whole =
      whole ∙ sym (map-map (whole_value k) (above base) offsets) ∙ ap (map (whole_value k)) (sym put)
      ∙ ap (λ (n : ℕ). map (whole_value k) (take n written)) long

  -- numbers above a base stand as those that were written
  pub stands_above : values ≡ zip2 (number_above base) offsets fs → StandsAs kind.Number written values
  stands_above whole = stands kind.Number (whole ∙ without_flags (number_above base) (λ o. whole_value kind.Number (above base o)) (λ o. refl) offsets fs same clear)

  pub stands_days_above : values ≡ zip2 (day_above base) offsets fs → StandsAs kind.Day written values
  stands_days_above whole = stands kind.Day (whole ∙ without_flags (day_above base) (λ o. whole_value kind.Day (above base o)) (λ o. refl) offsets fs same clear)

-- days stand as their numbers
pub stands_days : (days : List ℤ) (fs : List Bool) (values : List Value) (written : List ℤ) → length days ≡ length values → length fs ≡ length days → ((k : ℕ) → get_or fs k false ≡ false)
    → take (length days) written ≡ days → values ≡ zip2 day_unless days fs → StandsAs kind.Day written values
stands_days days fs values written long same clear put whole =
    whole ∙ without_flags day_unless (whole_value kind.Day) (λ n. refl) days fs same clear
    ∙ ap (map (whole_value kind.Day)) (sym put) ∙ ap (λ (n : ℕ). map (whole_value kind.Day) (take n written)) long
