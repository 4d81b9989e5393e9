-- Results at numbers whose sizes 64 bits hold.
use Rattle.std.proofs.Common.{◌≤◌, ◌^◌, ℕ, zero, suc, List, [], ◌∷◌, map, get_or, arith}
use Rattle.std.proofs.lemmas.Int.{ints}
use Rattle.std.proofs.lemmas.Nat.{mul-le}
use lib.Lanes.{zip2}
use Rattle.cq_values.specs.declared.value.Value.{Value}
use Rattle.cq_values.specs.declared.value.Value.TheVariants.{Null, Number, Day, Text}
use Rattle.cq_model.specs.Eval.{negated, plus, times}
use Rattle.cq_model.specs.Exact.{ValueInRange}
use Rattle.cq_model.specs.Width.{value_size}
use Rattle.cq_model.proofs.Sizes.{size-negated, size-plus, size-times}
use Rattle.cq_prims_arithmetic.specs.Operation.{AllInRange}

-- 64 bits hold the size of each number
abbrev pub AreSmall : List Value → Type 0
AreSmall values = (k : ℕ) → value_size (get_or values k Null) ≤ 2 ^ 63

value_fits : (v : Value) → value_size v ≤ 2 ^ 126 → ValueInRange v
value_fits (Number n) small = record { low = omega (arith, ints, small); high = omega (arith, ints, small) }
value_fits (Day d) small = tt
value_fits (Text t) small = tt
value_fits Null small = tt

module _ (f : Value → Value → Value) (size : (v w : Value) → value_size v ≤ 2 ^ 63 → value_size w ≤ 2 ^ 63 → value_size (f v w) ≤ 2 ^ 126) where
  results_fit : (vs ws : List Value) → AreSmall vs → AreSmall ws → AllInRange (zip2 f vs ws)
  results_fit [] ws s t k = tt
  results_fit (v ∷ vs) [] s t k = tt
  results_fit (v ∷ vs) (w ∷ ws) s t zero = value_fits (f v w) (size v w (s 0) (t 0))
  results_fit (v ∷ vs) (w ∷ ws) s t (suc k) = results_fit vs ws (λ j. s (suc j)) (λ j. t (suc j)) k

-- sums and products of small numbers fit 128 bits
pub sums_fit : (vs ws : List Value) → AreSmall vs → AreSmall ws → AllInRange (zip2 plus vs ws)
sums_fit = results_fit plus (λ v w p q. omega (arith, size-plus v w, p, q))

pub products_fit : (vs ws : List Value) → AreSmall vs → AreSmall ws → AllInRange (zip2 times vs ws)
products_fit = results_fit times (λ v w p q. omega (arith, size-times v w, mul-le (value_size v) (value_size w) (2 ^ 63) (2 ^ 63) p q))

-- and so do small numbers with the other sign
pub opposites_fit : (vs : List Value) → AreSmall vs → AllInRange (map negated vs)
opposites_fit [] s k = tt
opposites_fit (v ∷ vs) s zero = value_fits (negated v) (omega (arith, size-negated v, s 0))
opposites_fit (v ∷ vs) s (suc k) = opposites_fit vs (λ j. s (suc j)) k
