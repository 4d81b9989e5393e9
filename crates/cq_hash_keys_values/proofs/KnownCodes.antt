-- Codes of numbers that are known.
use Rattle.std.proofs.Common.{◌≡◌, ℕ, ◌-◌, nat_eq, Option, Some, refl}
use Rattle.std.proofs.lemmas.Bool.{eqb-true}
use Rattle.cq_model_bags.proofs.Totals.{by_test}
use Rattle.cq_hash_keys_values.specs.Codes.{code_or}

-- a code that is not 0 is that of the number before it
pub known-code : (code : ℕ) (found : Option ℕ) → (code ≡ 0 → ⊥) → code_or code found ≡ Some (code - 1)
known-code code found some = by_test (nat_eq code 0)
    (λ s. absurd (some (eqb-true code 0 s)))
    (λ s. rw s refl)
