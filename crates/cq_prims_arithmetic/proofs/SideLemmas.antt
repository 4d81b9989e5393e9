-- The sides of an operation: how long they are, how far from zero, and what values they make.
use Rattle.std.proofs.Common.{◌≡◌, ℕ, zero, suc, ◌+◌, ◌≤◌, ℤ, pos, Bool, false, List, [], ◌∷◌, map, length, replicate, get_or, nat_abs, refl, subst, sym, ap, ◌∙◌, arith}
use lib.Lanes.{zip2}
use Rattle.std.proofs.lemmas.Int.{ints}
use Rattle.std.proofs.lemmas.List.{length-map, length-replicate}
use Rattle.std.proofs.lemmas.Simd.{length-zip2}
use Rattle.cq_values.specs.declared.value.Value.{Value}
use Rattle.cq_values.specs.declared.value.Value.TheVariants.{Number}
use Rattle.cq_model.specs.Condition.{is_null}
use Rattle.cq_vectors_stored.specs.Columns.{number_unless}
use Rattle.cq_vectors_stored.specs.LentColumns.{number_above}
use Rattle.cq_prims_arithmetic.specs.Sides.{AreSide, above, all_above}
use Rattle.cq_prims_arithmetic.proofs.WidenedLemmas.{values_above}

-- there is a number and a flag for each value
pub numbers-long : (numbers : List ℤ) (nulls : List Bool) (values : List Value) → AreSide numbers nulls values → length numbers ≡ length values
numbers-long numbers nulls values side = sym (ap length side.made ∙ length-zip2 number_unless numbers nulls (sym side.same))

pub nulls-long : (numbers : List ℤ) (nulls : List Bool) (values : List Value) → AreSide numbers nulls values → length nulls ≡ length values
nulls-long numbers nulls values side = side.same ∙ numbers-long numbers nulls values side

-- as many flags as on the other side
pub nulls-same : (ms ns : List ℤ) (fs gs : List Bool) (vs ws : List Value) → AreSide ms fs vs → AreSide ns gs ws → length vs ≡ length ws → length fs ≡ length gs
nulls-same ms ns fs gs vs ws left right same = nulls-long ms fs vs left ∙ same ∙ sym (nulls-long ns gs ws right)

-- what a width adds to the size of the base
pub size-above : (base : ℤ) (most : ℕ) (offsets : List ℕ) → ((k : ℕ) → get_or offsets k 0 ≤ most) → (k : ℕ) → nat_abs (get_or (all_above base offsets) k (pos 0)) ≤ nat_abs base + most
size-above base most [] small k = search arith
size-above base most (o ∷ offsets) small zero = omega (arith, ints, small 0)
size-above base most (o ∷ offsets) small (suc k) = size-above base most offsets (λ j. small (suc j)) k

-- numbers above a base
pub side-above : (base : ℤ) (offsets : List ℕ) (nulls : List Bool) (values column : List Value) → values ≡ column → column ≡ zip2 (number_above base) offsets (map is_null column)
    → nulls ≡ map is_null column → length offsets ≡ length column → AreSide (all_above base offsets) nulls values
side-above base offsets nulls values column is whole nulls_are long = record {
  same = ap length nulls_are ∙ length-map column is_null ∙ sym long ∙ sym (length-map offsets (above base));
  made = is ∙ whole ∙ ap (zip2 (number_above base) offsets) (sym nulls_are) ∙ sym (values_above base offsets nulls);
}

-- the same where the base was read in 64 bits, and the offsets in their width
pub side-narrow : {read base : ℤ} {offsets own : List ℕ} {nulls : List Bool} {values column : List Value} → read ≡ base → offsets ≡ own → values ≡ column → column ≡ zip2 (number_above base) offsets (map is_null column)
    → nulls ≡ map is_null column → length offsets ≡ length column → AreSide (all_above read own) nulls values
side-narrow {read} {base} {offsets} {own} {nulls} {values} {column} kept of is whole nulls_are long =
    subst (λ (b : ℤ). AreSide (all_above b own) nulls values) (sym kept)
    (subst (λ (os : List ℕ). AreSide (all_above base os) nulls values) of (side-above base offsets nulls values column is whole nulls_are long))

-- one number in each place
constants : (len : ℕ) (n : ℤ) → replicate len (Number n) ≡ zip2 number_unless (replicate len n) (replicate len false)
constants zero n = refl
constants (suc len) n = ap (λ vs. Number n ∷ vs) (constants len n)

pub side-constant : (len : ℕ) (n : ℤ) (v : Value) (values : List Value) → values ≡ replicate len v → v ≡ Number n → AreSide (replicate len n) (replicate (length values) false) values
side-constant len n v values is v_is =
    let long : length values ≡ len = ap length is ∙ length-replicate len v in
    record {
      same = length-replicate (length values) false ∙ long ∙ sym (length-replicate len n);
      made = is ∙ ap (replicate len) v_is ∙ constants len n ∙ ap (λ m. zip2 number_unless (replicate len n) (replicate m false)) (sym long);
    }

-- numbers as they stand
pub side-numbers : (numbers : List ℤ) (nulls : List Bool) (values column : List Value) → column ≡ values → column ≡ zip2 number_unless numbers (map is_null column)
    → nulls ≡ map is_null column → length numbers ≡ length column → AreSide numbers nulls values
side-numbers numbers nulls values column is whole nulls_are long = record {
  same = ap length nulls_are ∙ length-map column is_null ∙ sym long;
  made = sym is ∙ whole ∙ ap (zip2 number_unless numbers) (sym nulls_are);
}
