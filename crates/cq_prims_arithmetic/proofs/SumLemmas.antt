-- Sums of numbers are sums of the values that they are kept for.
use Rattle.std.proofs.Common.{◌≡◌, ℕ, ℤ, pos, ◌+ℤ◌, ◌*ℤ◌, ◌^◌, arith, Bool, true, false, List, [], ◌∷◌, map, fold, get_or, zero, suc, refl, ap, ◌∙◌}
use Rattle.std.proofs.lemmas.Int.{ints}
use lib.Lanes.{zip2}
use Rattle.cq_values.specs.declared.value.Value.{Value}
use Rattle.cq_values.specs.declared.value.Value.TheVariants.{Null}
use Rattle.cq_values.specs.Order.{number}
use Rattle.cq_model.specs.Group.{addend}
use Rattle.cq_vectors_stored.specs.Columns.{number_unless}
use Rattle.cq_prims_arithmetic.specs.Sums.{sum_at, sum_of}

-- the number of a place is what its value adds
addend_at : (ns : List ℤ) (fs : List Bool) (k : ℕ) → get_or (map number (zip2 number_unless ns fs)) k (pos 0) ≡ addend (get_or (zip2 number_unless ns fs) k Null)
addend_at [] fs k = refl
addend_at (n ∷ ns) [] k = refl
addend_at (n ∷ ns) (true ∷ fs) zero = refl
addend_at (n ∷ ns) (false ∷ fs) zero = refl
addend_at (n ∷ ns) (f ∷ fs) (suc k) = addend_at ns fs k

same_sums : (numbers : List ℤ) (values : List Value) → ((k : ℕ) → get_or numbers k (pos 0) ≡ addend (get_or values k Null)) → (start : ℤ) (places : List ℕ)
    → fold (λ sum place. sum +ℤ get_or numbers place (pos 0)) start places ≡ fold (λ sum place. sum +ℤ addend (get_or values place Null)) start places
same_sums numbers values at start [] = refl
same_sums numbers values at start (p ∷ ps) =
    ap (λ s. fold (λ sum place. sum +ℤ get_or numbers place (pos 0)) s ps) (ap (λ n. start +ℤ n) (at p)) ∙ same_sums numbers values at (start +ℤ addend (get_or values p Null)) ps

-- the sum of a column's numbers is that of its values
pub sum_of_numbers : (values : List Value) (ns : List ℤ) (fs : List Bool) → values ≡ zip2 number_unless ns fs → (places : List ℕ) → sum_at (map number values) places ≡ sum_of values places
sum_of_numbers values ns fs whole places = rw whole (same_sums (map number (zip2 number_unless ns fs)) (zip2 number_unless ns fs) (addend_at ns fs) (pos 0) places)

-- two numbers in halves are added by their halves
pub added_halves : (low high lower upper m n : ℤ) → low +ℤ high *ℤ pos (2 ^ 64) ≡ m → lower +ℤ upper *ℤ pos (2 ^ 64) ≡ n → low +ℤ lower +ℤ (high +ℤ upper) *ℤ pos (2 ^ 64) ≡ m +ℤ n
added_halves low high lower upper m n p q = rw (← p, ← q) (omega (arith, ints))
