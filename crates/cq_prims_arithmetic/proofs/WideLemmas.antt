-- Columns without NULLs, in 128 bits.
use Rattle.std.proofs.Common.{◌≡◌, ℕ, zero, suc, ℤ, false, List, [], ◌∷◌, map, length, replicate, get_or, refl, sym, ap, ◌∙◌, arith}
use Rattle.std.specs.Int.{w128}
use lib.Lanes.{zip2}
use Rattle.std.proofs.lemmas.List.{length-map}
use Rattle.std.proofs.lemmas.Simd.{length-zip2}
use Rattle.cq_values.specs.declared.value.Value.{Value}
use Rattle.cq_values.specs.declared.value.Value.TheVariants.{Number}
use Rattle.cq_vectors_stored.specs.Columns.{AllFit}
use Rattle.cq_prims_arithmetic.specs.Operation.{AllInRange, lifted}
use Rattle.cq_prims_arithmetic.proofs.PlaceLemmas.{number_fits}

-- an operation on values that are all numbers
pub of_numbers : (f : ℤ → ℤ → ℤ) (ms ns : List ℤ) → zip2 (lifted f) (map Number ms) (map Number ns) ≡ map Number (zip2 f ms ns)
of_numbers f [] ns = refl
of_numbers f (m ∷ ms) [] = refl
of_numbers f (m ∷ ms) (n ∷ ns) = ap (λ l. Number (f m n) ∷ l) (of_numbers f ms ns)

-- there is a result for each value
pub results-long : (f : ℤ → ℤ → ℤ) (ms ns : List ℤ) {vs ws : List Value} → vs ≡ map Number ms → ws ≡ map Number ns → length vs ≡ length ws → length (zip2 f ms ns) ≡ length vs
results-long f ms ns {vs} {ws} first second same =
    let left = sym (length-map ms Number) ∙ sym (ap length first) in
    length-zip2 f ms ns (left ∙ same ∙ ap length second ∙ length-map ns Number) ∙ left

pub numbers_fit : (ns : List ℤ) → AllInRange (map Number ns) → AllFit w128 ns
numbers_fit [] fit k = search arith
numbers_fit (n ∷ ns) fit zero = number_fits n (fit 0)
numbers_fit (n ∷ ns) fit (suc k) = numbers_fit ns (λ j. fit (suc j)) k

-- no flag of these is set
pub all_clear : (n k : ℕ) → get_or (replicate n false) k false ≡ false
all_clear zero k = refl
all_clear (suc n) zero = refl
all_clear (suc n) (suc k) = all_clear n k

-- one number everywhere
pub number_everywhere : (len : ℕ) (n : ℤ) → replicate len (Number n) ≡ map Number (replicate len n)
number_everywhere zero n = refl
number_everywhere (suc len) n = ap (λ l. Number n ∷ l) (number_everywhere len n)
