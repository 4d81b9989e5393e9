-- Numbers as offsets from the least of them.
use Rattle.std.proofs.Common.{◌≡◌, ℕ, ◌<◌, ◌≤◌, ℤ, pos, ◌+ℤ◌, Bool, true, false, ◌||◌, refl, List, length, get_or, map, take, sym, subst, ap, ◌∙◌, arith}
use Rattle.std.specs.Simd.Lanes.{zip2}
use Rattle.std.proofs.lemmas.List.{get_or-map, get_or_past, length-map, take_all}
use Rattle.cq_values.specs.declared.value.Value.TheVariants.{Null}
use Rattle.cq_encodings_plain.specs.declared.kind.Kind.{Kind}
use Rattle.cq_encodings_plain.specs.Kind.{datum}
use Rattle.cq_values.specs.declared.lent.Lent.{Lent}
use Rattle.cq_values.specs.Lent.{owned}
use Rattle.cq_encodings_plain.specs.Nulls.{NothingWhere}
use Rattle.cq_encodings_plain.specs.Parts.{IsNoneNull, nulls_of}
use Rattle.cq_encodings_numbers.specs.Packed.{AreOffsetsOf, FitAbove, above}
use Rattle.cq_encodings_plain.proofs.Zipped.{length-nulls_of, length-zipped, zipped_at}

module _ (kind : Kind) (least : ℤ) (offsets : List ℕ) (nulls : List Bool) (same : length nulls ≡ length offsets) where
  long : length (above least offsets) ≡ length offsets
  long = length-map offsets (λ offset. least +ℤ pos offset)

  pub length-packed : length (zip2 (datum kind) (above least offsets) nulls) ≡ length offsets
  length-packed = length-zipped (datum kind) (above least offsets) nulls (omega (arith, same, long)) ∙ long

  -- NULL past the end
  pub packed_past : (place : ℕ) → length offsets ≤ place → get_or (zip2 (datum kind) (above least offsets) nulls) place Null ≡ Null
  packed_past place le = get_or_past (zip2 (datum kind) (above least offsets) nulls) place Null (omega (arith, le, length-packed))

  -- what stands at a place
  pub packed_at : (place offset : ℕ) (flag : Bool) → place < length offsets → get_or offsets place 0 ≡ offset → get_or nulls place false ≡ flag
      → get_or (zip2 (datum kind) (above least offsets) nulls) place Null ≡ datum kind (least +ℤ pos offset) flag
  packed_at place offset flag lt is is_flag =
      zipped_at (datum kind) (above least offsets) nulls place (pos 0) (least +ℤ pos offset) flag (omega (arith, lt, long)) (omega (arith, same, long))
      (get_or-map (λ (n : ℕ). least +ℤ pos n) offsets place 0 (pos 0) lt ∙ ap (λ (n : ℕ). least +ℤ pos n) is) is_flag

-- what was written of all values are their offsets
pub offsets_are : (kind : Kind) (least number : ℤ) → number ≡ least → (offsets : List ℕ) (values : List Lent) (i : ℕ) (any_null : Bool) → length values ≤ i → i ≤ length values → length offsets ≡ i
    → NothingWhere 0 (nulls_of (take i values)) offsets → FitAbove kind number offsets → zip2 (datum kind) (above number offsets) (nulls_of (take i values)) ≡ map owned (take i values) → (any_null ≡ false → IsNoneNull (take i values))
    → AreOffsetsOf kind least offsets any_null values
offsets_are kind least number is offsets values i any_null all few long clear fit same none =
    let whole : take i values ≡ values = take_all i values all in
    record {
      are = record {
        long = omega (arith, length-nulls_of values, long, all, few);
        clear = subst (λ (vs : List Lent). NothingWhere 0 (nulls_of vs) offsets) whole clear;
        fit = subst (λ (z : ℤ). FitAbove kind z offsets) is fit;
      };
      same = ap (λ (z : ℤ). zip2 (datum kind) (above z offsets) (nulls_of values)) (sym is)
          ∙ subst (λ (vs : List Lent). zip2 (datum kind) (above number offsets) (nulls_of vs) ≡ map owned vs) whole same;
      none = λ clear. subst IsNoneNull whole (none clear);
    }

-- where neither of two flags is set, each is clear
pub either_clear : (a b : Bool) → (a || b) ≡ false → (a ≡ false) × (b ≡ false)
either_clear true b set = absurd (cc set)
either_clear false b clear = (refl, clear)
