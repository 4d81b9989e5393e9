-- The numbers and NULLs of one side of an operation.
use Rattle.std.specs.Prelude.{ℕ, ℤ, pos, ◌+ℤ◌, ◌≡◌, Bool, List, length, map}
use Rattle.std.specs.Simd.Lanes.{zip2}
use Rattle.cq_values.specs.declared.value.Value.{Value}
use Rattle.cq_vectors_stored.specs.Columns.{number_unless}

-- the number at an offset above the base
abbrev pub above : ℤ → ℕ → ℤ
above base offset = base +ℤ pos offset

-- the numbers at the offsets above the base
abbrev pub all_above : ℤ → List ℕ → List ℤ
all_above base offsets = map (above base) offsets

-- the values are these numbers, and NULL where a flag says so
pub record AreSide (numbers : List ℤ) (nulls : List Bool) (values : List Value) : Type 0 where
  pub same : length nulls ≡ length numbers
  pub made : values ≡ zip2 number_unless numbers nulls
