-- Numbers as offsets from the least of them.
use Rattle.std.specs.Prelude.{ℕ, ℤ, pos, ◌+ℤ◌, ◌≡◌, Bool, true, false, List, length, map, replicate, slice_index_or}
use Rattle.std.specs.Simd.Lanes.{zip2}
use Rattle.cq_values.specs.declared.lent.Lent.{Lent}
use Rattle.cq_values.specs.Lent.{owned}
use Rattle.cq_values.specs.Value.{is_null}
use Rattle.cq_encodings_plain.specs.declared.kind.Kind.{Kind}
use Rattle.cq_encodings_plain.specs.Kind.{IsOf, datum}
use Rattle.cq_encodings_plain.specs.Nulls.{NothingWhere}
use Rattle.cq_encodings_plain.specs.PackedNumbers.{numbers_in}
use Rattle.cq_encodings_plain.specs.declared.packed_numbers.Widths.{Widths}
use Rattle.cq_encodings_plain.specs.Parts.{IsNoneNull, nulls_of}
use Rattle.cq_encodings_numbers.specs.Ends.{HaveEnds}
use Rattle.cq_encodings_numbers.specs.declared.ends.PartEnds.{PartEnds}

-- the numbers that lie so far above a least one
abbrev pub above : ℤ → List ℕ → List ℤ
above least offsets = map (λ offset. least +ℤ pos offset) offsets

-- each number above the least one is of the kind
abbrev pub FitAbove : Kind → ℤ → List ℕ → Type 0
FitAbove kind least offsets = (k : ℕ) → IsOf kind (least +ℤ pos (slice_index_or offsets k 0))

-- a flag for each offset, which is 0 where NULL stands
pub record AreOffsets (kind : Kind) (least : ℤ) (offsets : List ℕ) (nulls : List Bool) : Type 0 where
  pub long : length nulls ≡ length offsets
  pub clear : NothingWhere 0 nulls offsets
  pub fit : FitAbove kind least offsets

-- they have the ends of each 1,024
pub record IsPacked (kind : Kind) (least : ℤ) (offsets : List ℕ) (nulls : List Bool) (ends : List PartEnds) : Type 0 where
  pub are : AreOffsets kind least offsets nulls
  pub have : HaveEnds ends offsets nulls

-- the number so far above the least stands for the value
pub record IsOffset (kind : Kind) (least : ℤ) (value : Lent) (offset : ℕ) : Type 0 where
  pub same : datum kind (least +ℤ pos offset) (is_null (owned value)) ≡ owned value
  pub null : is_null (owned value) ≡ true → offset ≡ 0
  pub fit : IsOf kind (least +ℤ pos offset)

-- the offsets make the values, of which none is NULL where the flag says so
pub record AreOffsetsOf (kind : Kind) (least : ℤ) (offsets : List ℕ) (any_null : Bool) (values : List Lent) : Type 0 where
  pub are : AreOffsets kind least offsets (nulls_of values)
  pub same : zip2 (datum kind) (above least offsets) (nulls_of values) ≡ map owned values
  pub none : any_null ≡ false → IsNoneNull values

-- the offsets of a width and the flag are those of the values
abbrev pub HaveOffsets : Kind → ℤ → Widths × Bool → List Lent → Type 0
HaveOffsets kind least parts values = AreOffsetsOf kind least (numbers_in parts.0) parts.1 values
