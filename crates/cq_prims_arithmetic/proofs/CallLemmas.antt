-- The operations of the language by those on numbers.
use Rattle.std.proofs.Common.{◌≡◌, ℤ, pos, ◌+ℤ◌, neg_ℤ, List, [], ◌∷◌, map, length, replicate, refl, ap, ap₂, arith}
use lib.Lanes.{zip2}
use Rattle.std.proofs.lemmas.Int.{ints}
use Rattle.cq_values.specs.declared.value.Value.{Value}
use Rattle.cq_values.specs.declared.value.Value.TheVariants.{Null, Number, Day, Text}
use Rattle.cq_model.specs.Eval.{negated, plus}
use Rattle.cq_prims_arithmetic.specs.Operation.{lifted, minus}

from_zero : (n : ℤ) → pos 0 +ℤ neg_ℤ n ≡ neg_ℤ n
from_zero n = omega (arith, ints)

-- nothing less a value
less_from_zero : (v : Value) → lifted minus (Number (pos 0)) v ≡ negated v
less_from_zero (Number n) = ap Number (from_zero n)
less_from_zero (Day n) = refl
less_from_zero (Text n) = refl
less_from_zero Null = refl

-- a value less another one
less : (v w : Value) → plus v (negated w) ≡ lifted minus v w
less (Number m) (Number n) = refl
less (Number m) (Day n) = refl
less (Number m) (Text n) = refl
less (Number m) Null = refl
less (Day m) w = refl
less (Text m) w = refl
less Null w = refl

pub differences : (vs ws : List Value) → zip2 plus vs (map negated ws) ≡ zip2 (lifted minus) vs ws
differences [] ws = refl
differences (v ∷ vs) [] = refl
differences (v ∷ vs) (w ∷ ws) = ap₂ (λ x l. x ∷ l) (less v w) (differences vs ws)

pub negated_results : (vs : List Value) → zip2 (lifted minus) (replicate (length vs) (Number (pos 0))) vs ≡ map negated vs
negated_results [] = refl
negated_results (v ∷ vs) = ap₂ (λ x l. x ∷ l) (less_from_zero v) (negated_results vs)
