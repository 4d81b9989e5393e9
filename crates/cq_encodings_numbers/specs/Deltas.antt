-- Numbers as the bits of 64.
use Rattle.std.specs.Prelude.{ℕ, ◌≡◌, Bool, List, length, map}
use Rattle.std.specs.Simd.Lanes.{zip2}
use Rattle.std.specs.Int.{cast_signed, w64}
use Rattle.cq_values.specs.declared.lent.Lent.{Lent}
use Rattle.cq_values.specs.declared.value.Value.{Value}
use Rattle.cq_values.specs.Lent.{owned}
use Rattle.cq_encodings_plain.specs.Parts.{nulls_of}
use Rattle.cq_encodings_plain.specs.declared.kind.Kind.{Kind}
use Rattle.cq_encodings_plain.specs.Kind.{datum}

-- what the bits of a number stand for, and NULL where the flag says so
abbrev pub bits_datum : Kind → ℕ → Bool → Value
bits_datum kind number is_null = datum kind (cast_signed w64 number) is_null

-- the bits make the values, where those that are NULL are known
pub record AreBitsOf (kind : Kind) (numbers : List ℕ) (values : List Lent) : Type 0 where
  pub long : length numbers ≡ length values
  pub same : zip2 (bits_datum kind) numbers (nulls_of values) ≡ map owned values
