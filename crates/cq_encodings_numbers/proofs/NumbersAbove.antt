-- Numbers of a kind as offsets from the least of them, none of them NULL.
use Rattle.std.proofs.Common.{◌≡◌, ℕ, zero, suc, ℤ, pos, ◌+ℤ◌, false, true, List, [], ◌∷◌, length, get_or, map, replicate, refl, sym, subst, ap, ap₂, ◌∙◌, arith}
use Rattle.std.specs.List.{AllByRecursion}
use Rattle.std.specs.Simd.Lanes.{zip2}
use Rattle.std.proofs.lemmas.List.{length-map, length-replicate, get_or-replicate}
use Rattle.cq_values.specs.declared.value.Value.{Value}
use Rattle.cq_encodings_plain.specs.declared.kind.Kind.{Kind}
use Rattle.cq_encodings_plain.specs.Kind.{IsOf, datum, number_values}
use Rattle.cq_encodings_plain.specs.Nulls.{NothingWhere}
use Rattle.cq_encodings_numbers.specs.Packed.{AreOffsets, FitAbove, above}

-- with no flag set, each number stands for its value
zipped_clear : (kind : Kind) (numbers : List ℤ) → zip2 (datum kind) numbers (replicate (length numbers) false) ≡ number_values kind numbers
zipped_clear kind [] = refl
zipped_clear kind (n ∷ numbers) = ap (λ (vs : List Value). datum kind n false ∷ vs) (zipped_clear kind numbers)

no_flag : (count k : ℕ) → get_or (replicate count false) k false ≡ false
no_flag zero k = refl
no_flag (suc count) zero = refl
no_flag (suc count) (suc k) = no_flag count k

-- each number is of the kind, and so is the least, which stands past the end
fit_above : (kind : Kind) (least : ℤ) (offsets : List ℕ) → IsOf kind (least +ℤ pos 0) → AllByRecursion (IsOf kind) (above least offsets) → FitAbove kind least offsets
fit_above kind least [] past all k = past
fit_above kind least (n ∷ offsets) past all zero = all.0
fit_above kind least (n ∷ offsets) past all (suc k) = fit_above kind least offsets past all.1 k

module _ (kind : Kind) (least : ℤ) (offsets : List ℕ) (numbers : List ℤ) (same : above least offsets ≡ numbers) where
  as_many : length numbers ≡ length offsets
  as_many = ap length (sym same) ∙ length-map offsets (λ offset. least +ℤ pos offset)

  pub are_offsets : IsOf kind (least +ℤ pos 0) → AllByRecursion (IsOf kind) numbers → AreOffsets kind least offsets (replicate (length numbers) false)
  are_offsets past all = record {
    long = length-replicate (length numbers) false ∙ as_many;
    clear = λ k set. absurd (cc (sym set ∙ no_flag (length numbers) k));
    fit = fit_above kind least offsets past (subst (AllByRecursion (IsOf kind)) (sym same) all);
  }

  pub packed_numbers : zip2 (datum kind) (above least offsets) (replicate (length numbers) false) ≡ number_values kind numbers
  packed_numbers = ap (λ (ns : List ℤ). zip2 (datum kind) ns (replicate (length numbers) false)) same ∙ zipped_clear kind numbers
