-- Columns of numbers, and the values that they are with their NULLs.
use Rattle.std.specs.Prelude.{ℕ, ℤ, pos, ◌+◌, ◌+ℤ◌, ◌^◌, ◌≤◌, nat_abs, Bool, List, map, slice_index_or}
use Rattle.std.specs.Simd.Lanes.{zip2}
use Rattle.cq_values.specs.declared.value.Value.{Value}
use Rattle.cq_vectors_stored.specs.Columns.{number_unless}

-- the number at an offset above the base
abbrev pub above : ℤ → ℕ → ℤ
above base offset = base +ℤ pos offset

-- the numbers at the offsets above the base
abbrev pub all_above : ℤ → List ℕ → List ℤ
all_above base offsets = map (above base) offsets

-- the numbers, and NULL where a flag says so
abbrev pub with_nulls : List ℤ → List Bool → List Value
with_nulls numbers nulls = zip2 number_unless numbers nulls

-- each is so small that 1,024 of them fit 64 bits together
abbrev pub AreSmall : List ℤ → Type 0
AreSmall numbers = (place : ℕ) → nat_abs (slice_index_or numbers place (pos 0)) ≤ 2 ^ 52 + 2 ^ 32
