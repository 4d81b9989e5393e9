-- The keys of two columns are those of values in their groups.
use Rattle.std.proofs.Common.{◌≡◌, ℕ, ℤ, zero, suc, ◌<◌, ◌^◌, pos, false, List, [], ◌∷◌, map, length, replicate, refl, sym, ◌∙◌, ap, ap₂, arith}
use Rattle.std.specs.Int.{w64}
use Rattle.std.specs.Simd.Lanes.{zip2}
use Rattle.std.proofs.lemmas.Int.{ints}
use Rattle.cq_values.specs.declared.value.Value.{Value}
use Rattle.cq_values.specs.declared.value.Value.TheVariants.{Number}
use Rattle.cq_values.specs.Value.{Row}
use Rattle.cq_vectors_stored.specs.Columns.{AllFit, number_unless}
use Rattle.cq_hash_keys.specs.Keys.{key_rows}
use Rattle.cq_hash_keys.specs.Stages.{behind, singles}
use Rattle.cq_hash_keys.proofs.KeyRows.{all-columns}
use Rattle.cq_hash_groups_sums.specs.Puts.{AreNumbers, AreOfOne}
use Rattle.cq_hash_groups_distinct.specs.Sets.{column_pairs, group_values}

behind-pairs : (groups values : List Value) → behind (singles groups) values ≡ column_pairs groups values
behind-pairs [] values = refl
behind-pairs (g ∷ groups) [] = refl
behind-pairs (g ∷ groups) (v ∷ values) = ap (λ (rs : List Row). (g ∷ v ∷ []) ∷ rs) (behind-pairs groups values)

-- the keys at the places of two columns
pub pairs-are : (len : ℕ) (groups values : List Value) → length groups ≡ len → length values ≡ len → key_rows len (groups ∷ values ∷ []) ≡ column_pairs groups values
pairs-are len groups values first second = sym (all-columns len groups (values ∷ []) (first, (second, tt))) ∙ behind-pairs groups values

-- one group in each place
pub one-pairs : (group : ℕ) (numbers : List ℕ) (values : List Value) → AreOfOne group numbers → length numbers ≡ length values
    → column_pairs (replicate (length values) (Number (pos group))) values ≡ group_values numbers values
one-pairs group [] [] one same = refl
one-pairs group [] (v ∷ values) one same = absurd (omega (arith, same))
one-pairs group (n ∷ numbers) [] one same = absurd (omega (arith, same))
one-pairs group (n ∷ numbers) (v ∷ values) one same =
    let here : n ≡ group = one 0 (omega arith) in
    ap₂ (λ (g : ℕ) (rs : List Row). (Number (pos g) ∷ v ∷ []) ∷ rs) (sym here)
    (one-pairs group numbers values (λ place lt. one (suc place) (omega (arith, lt))) (omega (arith, same)))

-- the groups laid out as a column
pub laid-pairs : (numbers : List ℕ) (values : List Value) → length numbers ≡ length values
    → column_pairs (zip2 number_unless (map pos numbers) (replicate (length values) false)) values ≡ group_values numbers values
laid-pairs [] [] same = refl
laid-pairs [] (v ∷ values) same = absurd (omega (arith, same))
laid-pairs (n ∷ numbers) [] same = absurd (omega (arith, same))
laid-pairs (n ∷ numbers) (v ∷ values) same = ap (λ (rs : List Row). (Number (pos n) ∷ v ∷ []) ∷ rs) (laid-pairs numbers values (omega (arith, same)))

pub laid-long : (numbers : List ℕ) (values : List Value) → length numbers ≡ length values → length (zip2 number_unless (map pos numbers) (replicate (length values) false)) ≡ length values
laid-long [] [] same = refl
laid-long [] (v ∷ values) same = absurd (omega (arith, same))
laid-long (n ∷ numbers) [] same = absurd (omega (arith, same))
laid-long (n ∷ numbers) (v ∷ values) same = ap suc (laid-long numbers values (omega (arith, same)))

-- each of them has 64 bits
pub laid-fit : (count : ℕ) (numbers : List ℕ) → count < 2 ^ 63 → AreNumbers count numbers → AllFit w64 (map pos numbers)
laid-fit count [] few there k = search (arith, ints)
laid-fit count (n ∷ numbers) few there zero = let lt = there.0 in search (arith, ints, lt, few)
laid-fit count (n ∷ numbers) few there (suc k) = laid-fit count numbers few there.1 k

-- one number in so many places
pub one-filled : (m n : ℕ) (x y : ℤ) → m ≡ n → x ≡ y → replicate m (Number x) ≡ replicate n (Number y)
one-filled m n x y long same = ap₂ (λ (k : ℕ) (z : ℤ). replicate k (Number z)) long same
