-- Columns of numbers with their NULLs.
use Rattle.std.proofs.Common.{◌≡◌, ℕ, zero, suc, ◌+◌, ◌^◌, ◌<◌, ◌≤◌, ℤ, pos, nat_abs, Bool, false, List, [], ◌∷◌, map, length, get_or, refl, sym, ◌∙◌, ap, ap₂, arith}
use Rattle.std.proofs.lemmas.Int.{ints}
use lib.Lanes.{zip2}
use Rattle.std.proofs.lemmas.Simd.{length-zip2}
use Rattle.cq_model.specs.Condition.{is_null}
use Rattle.cq_values.specs.declared.value.Value.{Value}
use Rattle.cq_values.specs.declared.value.Value.TheVariants.{Null}
use Rattle.cq_vectors_stored.specs.Columns.{number_unless}
use Rattle.cq_vectors_stored.specs.LentColumns.{number_above}
use Rattle.cq_hash_groups_sums.specs.NumberColumns.{above, all_above, with_nulls}

-- the numbers with their NULLs are the values above the base
values-above : (base : ℤ) (offsets : List ℕ) (nulls : List Bool) → with_nulls (all_above base offsets) nulls ≡ zip2 (number_above base) offsets nulls
values-above base [] nulls = refl
values-above base (o ∷ offsets) [] = refl
values-above base (o ∷ offsets) (f ∷ nulls) = ap (λ vs. number_unless (above base o) f ∷ vs) (values-above base offsets nulls)

-- the value of a place
pub value-at : (numbers : List ℤ) (nulls : List Bool) (place : ℕ) → place < length numbers → length nulls ≡ length numbers
    → get_or (with_nulls numbers nulls) place Null ≡ number_unless (get_or numbers place (pos 0)) (get_or nulls place false)
value-at [] nulls place lt same = absurd (omega (arith, lt))
value-at (n ∷ ns) [] place lt same = absurd (omega (arith, same))
value-at (n ∷ ns) (f ∷ fs) zero lt same = refl
value-at (n ∷ ns) (f ∷ fs) (suc place) lt same = value-at ns fs place (omega (arith, lt)) (omega (arith, same))

-- a column that stands above a base
pub narrow-is : (base : ℤ) (offsets : List ℕ) (nulls : List Bool) (values column : List Value) → values ≡ column → column ≡ zip2 (number_above base) offsets (map is_null column)
    → nulls ≡ map is_null column → with_nulls (all_above base offsets) nulls ≡ values
narrow-is base offsets nulls values column is whole are = values-above base offsets nulls ∙ ap (zip2 (number_above base) offsets) are ∙ sym whole ∙ sym is

module _ (column : List ℤ) (nulls : List Bool) (flags : length nulls ≡ length column) where
  -- there are as many values as numbers
  pub with_nulls-long : length column ≡ length (with_nulls column nulls)
  with_nulls-long = sym (length-zip2 number_unless column nulls (sym flags))

  -- what is read at a place, as a value
  pub read-at : (place : ℕ) (n : ℤ) (f : Bool) → place < length column → n ≡ get_or column place (pos 0) → f ≡ get_or nulls place false → number_unless n f ≡ get_or (with_nulls column nulls) place Null
  read-at place n f lt n_is f_is = ap₂ number_unless n_is f_is ∙ sym (value-at column nulls place lt flags)

-- the same where the base was read in 64 bits
pub narrow-read : (read base : ℤ) (offsets : List ℕ) (nulls : List Bool) (values column : List Value) → read ≡ base → values ≡ column → column ≡ zip2 (number_above base) offsets (map is_null column)
    → nulls ≡ map is_null column → with_nulls (all_above read offsets) nulls ≡ values
narrow-read read base offsets nulls values column kept is whole are =
    ap (λ (b : ℤ). with_nulls (all_above b offsets) nulls) kept ∙ narrow-is base offsets nulls values column is whole are

-- small offsets above a small base are small numbers
pub small-above : (base : ℤ) (offsets : List ℕ) (place : ℕ) → nat_abs base ≤ 2 ^ 52 → ((k : ℕ) → get_or offsets k 0 ≤ 2 ^ 32) → nat_abs (get_or (all_above base offsets) place (pos 0)) ≤ 2 ^ 52 + 2 ^ 32
small-above base [] place near few = omega arith
small-above base (o ∷ offsets) zero near few = let h : o ≤ 2 ^ 32 = few 0 in first_of (omega (arith, ints, near, h), search (arith, ints, near, h))
small-above base (o ∷ offsets) (suc place) near few = small-above base offsets place near (λ k. few (suc k))
