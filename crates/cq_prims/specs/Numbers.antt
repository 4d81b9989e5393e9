-- The numbers and the days of vectors whose values are all of one kind.
use Rattle.std.specs.Prelude.{◌≡◌, ◌+ℤ◌, ℕ, ℤ, pos, Bool, true, false, List, length, map}
use Rattle.std.specs.Simd.Lanes.{zip2}
use Rattle.cq_values.specs.declared.value.Value.{Value}
use Rattle.cq_model.specs.Condition.{is_null}
use Rattle.cq_vectors_stored.specs.Columns.{day_unless, number_unless}

-- the day or the number, or NULL where the flag says so
abbrev pub unless : Bool → ℤ → Bool → Value
unless true n flag = day_unless n flag
unless false n flag = number_unless n flag

-- each value is the number or the day of its place, or NULL
pub record ShowsNumbers (days : Bool) (numbers : List ℤ) (values : List Value) : Type 0 where
  pub long : length numbers ≡ length values
  pub whole : values ≡ zip2 (unless days) numbers (map is_null values)

-- the numbers that stand above the base
abbrev pub above : ℤ → List ℕ → List ℤ
above base offsets = map (λ offset. base +ℤ pos offset) offsets
