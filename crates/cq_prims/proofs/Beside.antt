-- Offsets above a base beside one constant.
use Rattle.std.proofs.Common.{◌≡◌, ℕ, ℤ, pos, ◌+ℤ◌, Bool, true, false, not, List, [], ◌∷◌, length, map, get_or, replicate, refl, sym, ap, ap₂, ◌∙◌, arith, Ordering, Less, Equal, Greater, int_cmp, cond}
use Rattle.std.specs.Ordering.{is_le, ordering_then}
use Rattle.std.specs.Prelude.{int_lt}
use Rattle.std.proofs.lemmas.Int.{ints}
use lib.Lanes.{zip2}
use Rattle.cq_model_bags.proofs.Totals.{by_test}
use Rattle.cq_values.specs.declared.comparison.Comparison.{Comparison}
use Rattle.cq_values.specs.declared.comparison.Comparison.TheVariants as by
use Rattle.cq_values.specs.declared.value.Value.{Value}
use Rattle.cq_values.specs.Comparison.{compared, passes}
use Rattle.cq_values.specs.Truth.{not_truth, truth_of}
use Rattle.cq_vectors_stored.specs.Offsets.{offsets_in}
use Rattle.cq_vectors_masks.specs.TruthMask.{known}
use Rattle.cq_prims.specs.declared.narrow_side.NarrowSide.{NarrowSide}
use Rattle.cq_prims.specs.Beside.{AreBeside}
use Rattle.cq_prims.specs.Numbers.{unless}
use Rattle.cq_prims.proofs.Compared.{zip2-opposite}
use Rattle.cq_prims_lanes.specs.UpTo.{known_of}
use Rattle.cq_prims_lanes.proofs.OffsetTests.{tests_alike}

asymmetric : (m n : ℤ) → int_lt m n ≡ true → int_lt n m ≡ false
asymmetric m n h = by_test (int_lt n m) (λ k. absurd (omega (arith, ints))) (λ k. k)

is_le-cond : (a b : Bool) → (a ≡ true → b ≡ false) → not b ≡ is_le (ordering_then (cond a Less (cond b Greater Equal)) Equal)
is_le-cond true b h = ap not (h refl)
is_le-cond false true h = refl
is_le-cond false false h = refl

pub at_most_agrees : (m n : ℤ) → not (int_lt n m) ≡ passes by.LessOrEqual (ordering_then (int_cmp m n) Equal)
at_most_agrees m n = is_le-cond (int_lt m n) (int_lt n m) (asymmetric m n)

pub not_at_most : (o : Ordering) → not (passes by.LessOrEqual o) ≡ passes by.Greater o
not_at_most Less = refl
not_at_most Equal = refl
not_at_most Greater = refl

module _ (c : Comparison) (s : ℤ → ℤ → Bool) (agree : (m n : ℤ) → s m n ≡ passes c (ordering_then (int_cmp m n) Equal)) where
  one : (days : Bool) (m n : ℤ) (flag : Bool) → known (s m n) flag ≡ compared c (unless days m flag) (unless days n false)
  one true m n true = refl
  one false m n true = refl
  one true m n false = ap truth_of (agree m n)
  one false m n false = ap truth_of (agree m n)

  all : (days : Bool) (base value : ℤ) (xs : List ℕ) (flags : List Bool) → length flags ≡ length xs
      → known_of (λ o. s (base +ℤ pos o) value) xs flags ≡ zip2 (compared c) (zip2 (λ o f. unless days (base +ℤ pos o) f) xs flags) (replicate (length (zip2 (λ o f. unless days (base +ℤ pos o) f) xs flags)) (unless days value false))
  all days base value [] [] long = refl
  all days base value [] (f ∷ flags) long = absurd (omega arith)
  all days base value (x ∷ xs) [] long = absurd (omega arith)
  all days base value (x ∷ xs) (f ∷ flags) long = ap₂ (λ t l. t ∷ l) (one days (base +ℤ pos x) value f) (all days base value xs flags (omega arith))

  -- the test of the numbers above the base gives the truths of the comparison
  pub by_beside : (side : NarrowSide) (vs ws : List Value) → length side.nulls.now ≡ length (offsets_in side.offsets) → AreBeside side vs ws → (t : ℕ → Bool) → ((o : ℕ) → t o ≡ s (side.base +ℤ pos o) side.value)
      → known_of t (offsets_in side.offsets) side.nulls.now ≡ zip2 (compared c) vs ws
  by_beside side vs ws long beside t same =
      let xs = offsets_in side.offsets in
      let flags = side.nulls.now in
      let constant = beside.constant ∙ ap (λ (l : List Value). replicate (length l) (unless beside.days side.value false)) beside.column in
      ap (λ (l : List Bool). zip2 known l flags) (tests_alike t (λ o. s (side.base +ℤ pos o) side.value) xs (λ k. same (get_or xs k 0)))
      ∙ all beside.days side.base side.value xs flags long
      ∙ sym (ap₂ (zip2 (compared c)) beside.column constant)

  -- and turned it gives those of the opposite comparison
  pub by_opposite : (d : Comparison) → ((o : Ordering) → not (passes c o) ≡ passes d o) → (side : NarrowSide) (vs ws : List Value) → length side.nulls.now ≡ length (offsets_in side.offsets) → AreBeside side vs ws
      → (t : ℕ → Bool) → ((o : ℕ) → t o ≡ s (side.base +ℤ pos o) side.value) → map not_truth (known_of t (offsets_in side.offsets) side.nulls.now) ≡ zip2 (compared d) vs ws
  by_opposite d opposite side vs ws long beside t same = ap (map not_truth) (by_beside side vs ws long beside t same) ∙ zip2-opposite c d opposite vs ws
