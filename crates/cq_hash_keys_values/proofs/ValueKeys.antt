-- Values as keys: only equal ones are one.
use Rattle.std.specs.Int.{w64}
use Rattle.std.specs.Prelude.{FitsSigned}
use Rattle.std.proofs.lemmas.Grind.{common_steps}
use Rattle.std.proofs.lemmas.Int.{ints}
use Rattle.cq_model_bags.proofs.Totals.{by_test}
use Rattle.cq_hash_keys_values.specs.Dictionary.{fits_64_bits}
use Rattle.std.proofs.Common.{◌≡◌, ℤ, true, [], ◌∷◌, get_or, ap, arith}
use Rattle.cq_values.specs.declared.value.Value.{Value}
use Rattle.cq_values.specs.declared.value.Value.TheVariants.{Null}
use Rattle.cq_values.specs.Value.{Row}
use Rattle.cq_values.specs.Keys.{same_row-refl, same_row-same}
use Rattle.cq_hash_keys_values.specs.Values.{same_value}

pub one-value : (v w : Value) → v ∷ [] ≡ w ∷ [] → v ≡ w
one-value v w e = ap (λ (row : Row). get_or row 0 Null) e

pub value-same : (v w : Value) → same_value v w ≡ true → v ≡ w
value-same v w s = one-value v w (same_row-same (v ∷ []) (w ∷ []) s)

pub value-itself : (v : Value) → same_value v v ≡ true
value-itself v = same_row-refl (v ∷ [])

-- 64 bits hold a number that fits them
pub fits-true : (n : ℤ) → FitsSigned w64 n → fits_64_bits n ≡ true
fits-true n fits = by_test (fits_64_bits n) (λ s. s) (λ s. absurd (grind (arith, ints, common_steps)))
