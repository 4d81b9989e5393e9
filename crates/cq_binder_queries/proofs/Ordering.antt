-- A name behind ORDER BY among the names of the output columns.
use Rattle.std.proofs.Common.{◌≡◌, ℕ, suc, ◌+◌, ◌<◌, ◌≤◌, Bool, List, [], ◌∷◌, length, drop, Option, Some, None, refl, ap, ◌∙◌, arith}
use Rattle.std.specs.Prelude.{nat_lt, position}
use Rattle.std.specs.List.{list_any, position_or_len}
use Rattle.std.proofs.lemmas.Bool.{ltb-true, ltb-false}
use Rattle.cq_model_bags.proofs.Totals.{by_test}
use Rattle.cq_values.specs.Texts.{is_text}
use Rattle.cq_binder_rules.specs.declared.fault.Fault.{Fault}
use Rattle.cq_binder_rules.specs.declared.fault.Fault.TheVariants.{AmbiguousColumn, UnknownColumn}
use Rattle.cq_binder_rules.specs.Checks.{first_fault, fault_if}
use Rattle.cq_binder_rules.specs.Orders.{named_check}
use Rattle.cq_binder_queries.proofs.Faults.{single}

module _ (name : List ℕ) where
  abbrev named : List ℕ → Bool
  named n = is_text n name

  -- where the first column of the name stands, or how many columns there are
  abbrev first : List (List ℕ) → ℕ
  first names = position_or_len named names

  -- the columns behind the first one of the name decide
  behind_first : (names : List (List ℕ)) → first names < length names → named_check name names ≡ fault_if (list_any named (drop (suc (first names)) names)) AmbiguousColumn
  behind_first [] h = absurd (omega (arith, h))
  behind_first (n ∷ names) h = by_test (named n)
      (λ k. rw k refl)
      (λ k.
      let later = rw k at h in
      let next : suc (first names) ≡ 1 + first names = omega arith in
      rw k (behind_first names (omega (arith, later)) ∙ ap (λ (p : ℕ). fault_if (list_any named (drop p names)) AmbiguousColumn) next))

  -- none has the name
  not_among : (names : List (List ℕ)) → length names ≤ first names → named_check name names ≡ Some UnknownColumn
  not_among [] h = refl
  not_among (n ∷ names) h = by_test (named n)
      (λ k. absurd (let none = rw k at h in omega (arith, none)))
      (λ k. let later = rw k at h in rw k (not_among names (omega (arith, later))))

  module _ (names : List (List ℕ)) where
    -- a name that no column has is unknown
    pub unknown_name : position named names ≡ None → first_fault (named_check name names ∷ []) ≡ Some UnknownColumn
    unknown_name e = by_test (nat_lt (first names) (length names))
        (λ k. absurd (cc (rw k at e)))
        (λ k. ap (λ (o : Option Fault). first_fault (o ∷ [])) (not_among names (ltb-false _ _ k)))

    -- of a name that a column has it decides whether one behind it has it too
    pub repeat_is_ambiguous : (place : ℕ) (b : Bool) → position named names ≡ Some place → list_any named (drop (place + 1) names) ≡ b → first_fault (named_check name names ∷ []) ≡ fault_if b AmbiguousColumn
    repeat_is_ambiguous place b e again = by_test (nat_lt (first names) (length names))
        (λ k.
        let there : suc (first names) ≡ place + 1 = let is : first names ≡ place = cc (rw k at e) in omega (arith, is) in
        let decides = behind_first names (ltb-true _ _ k) ∙ ap (λ (p : ℕ). fault_if (list_any named (drop p names)) AmbiguousColumn) there ∙ ap (λ (c : Bool). fault_if c AmbiguousColumn) again in
        ap (λ (o : Option Fault). first_fault (o ∷ [])) decides ∙ single b AmbiguousColumn)
        (λ k. absurd (cc (rw k at e)))
