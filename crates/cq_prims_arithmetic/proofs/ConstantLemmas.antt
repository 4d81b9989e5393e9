-- Operations on vectors of one value each.
use Rattle.std.proofs.Common.{◌≡◌, ◌∙◌, ◌<◌, ℕ, zero, suc, List, ◌∷◌, length, map, replicate, refl, ap, ap₂, subst, arith}
use lib.Lanes.{zip2}
use Rattle.std.proofs.lemmas.List.{length-replicate}
use Rattle.cq_values.specs.declared.value.Value.{Value}
use Rattle.cq_model.specs.Exact.{ValueInRange}
use Rattle.cq_prims_arithmetic.specs.Operation.{AllAddInRange, AllInRange}
use Rattle.cq_prims_arithmetic.proofs.PlaceLemmas.{all_in_range}

one_of_each : (f : Value → Value → Value) (v w : Value) (n : ℕ) → zip2 f (replicate n v) (replicate n w) ≡ replicate n (f v w)
one_of_each f v w zero = refl
one_of_each f v w (suc n) = ap (λ l. f v w ∷ l) (one_of_each f v w n)

first_in_range : (value : Value) (n : ℕ) → 0 < n → AllInRange (replicate n value) → ValueInRange value
first_in_range value zero some fit = absurd (omega (arith, some))
first_in_range value (suc n) some fit = fit 0

module _ (f : Value → Value → Value) (vs ws : List Value) (same : length vs ≡ length ws) (v w : Value) (n m : ℕ) (left : vs ≡ replicate n v) (right : ws ≡ replicate m w) where
  -- where each side has one value, so has the result
  pub one_result : zip2 f vs ws ≡ replicate n (f v w)
  one_result =
      let long : m ≡ n = omega (arith, same, ap length left, ap length right, length-replicate n v, length-replicate m w) in
      ap₂ (zip2 f) left (right ∙ ap (λ k. replicate k w) long) ∙ one_of_each f v w n

  -- and with a place, that is in range
  pub one_in_range : 0 < n → AllAddInRange (zip2 f vs ws) → ValueInRange (f v w)
  one_in_range some fit = first_in_range (f v w) n some (subst AllInRange one_result (all_in_range (zip2 f vs ws) fit))

-- a function of one value in each place
pub one_of_all : {A : Type 0} (f : Value → A) (values : List Value) (v : Value) (n : ℕ) → values ≡ replicate n v → map f values ≡ replicate n (f v)
one_of_all f values v n is = ap (map f) is ∙ each v n where
  each : (v : Value) (n : ℕ) → map f (replicate n v) ≡ replicate n (f v)
  each v zero = refl
  each v (suc n) = ap (λ l. f v ∷ l) (each v n)
