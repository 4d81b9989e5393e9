-- Checks without a fault.
use Rattle.std.proofs.Common.{◌≡◌, ◌≤◌, ℕ, List, [], ◌∷◌, ◌++◌, Option, Some, None, refl}
use Rattle.std.specs.Prelude.{nat_lt}
use Rattle.std.proofs.lemmas.Bool.{ltb-false}
use Rattle.cq_model_bags.proofs.Totals.{by_test}
use Rattle.cq_binder_rules.specs.declared.fault.Fault.{Fault}
use Rattle.cq_binder_rules.specs.Checks.{first_fault}
use Rattle.cq_table.specs.Checks.{too_many}

-- where two stretches have no fault, neither has one
pub front_free : (xs ys : List (Option Fault)) → first_fault (xs ++ ys) ≡ None → first_fault xs ≡ None
front_free [] ys free = refl
front_free (None ∷ xs) ys free = front_free xs ys free
front_free (Some f ∷ xs) ys free = absurd (cc free)

pub back_free : (xs ys : List (Option Fault)) → first_fault (xs ++ ys) ≡ None → first_fault ys ≡ None
back_free [] ys free = free
back_free (None ∷ xs) ys free = back_free xs ys free
back_free (Some f ∷ xs) ys free = absurd (cc free)

-- where places have no fault, the first has none
pub first_free : (o : Option Fault) (places : List (Option Fault)) → first_fault (o ∷ places) ≡ None → o ≡ None
first_free None places e = refl
first_free (Some f) places e = absurd (cc)

-- so many rows that are not too many
pub few-enough : (most count : ℕ) → too_many most count ≡ None → count ≤ most
few-enough most count none = by_test (nat_lt most count)
    (λ k. absurd (let e = rw k at none in cc e))
    (λ k. ltb-false most count k)
