-- Tests of offsets, and comparisons of each value with one.
use Rattle.std.specs.Prelude.{ℕ, nat_eq, nat_le, Bool, false, Option, Some, None, List, map, length, replicate, slice_index_or}
use Rattle.std.specs.List.{range_with_len}
use Rattle.std.specs.Simd.Lanes.{mask_l, zip2}
use Rattle.cq_values.specs.declared.comparison.Comparison.{Comparison}
use Rattle.cq_values.specs.declared.truth.Truth.{Truth}
use Rattle.cq_values.specs.declared.value.Value.{Value}
use Rattle.cq_values.specs.Comparison.{compared}
use Rattle.cq_vectors_masks.specs.TruthMask.{known}

-- whether the offset is no greater than the last one, if there is a last one
abbrev pub is_up_to : Option ℕ → ℕ → Bool
is_up_to None offset = false
is_up_to (Some last) offset = nat_le offset last

-- the answers of a test for as many places as there are flags, and Unknown where NULL stands
abbrev pub known_by : (ℕ → Bool) → List Bool → List Truth
known_by test flags = zip2 known (map test (range_with_len 0 (length flags))) flags

-- the answers of a test of the offsets, and Unknown where NULL stands
abbrev pub known_of : (ℕ → Bool) → List ℕ → List Bool → List Truth
known_of test offsets flags = zip2 known (map test offsets) flags

-- the truths of the comparison of each value with one
abbrev pub compared_with : Comparison → List Value → Value → List Truth
compared_with comparison values one = zip2 (compared comparison) values (replicate (length values) one)

-- the answers of a test of the offsets by the last one, and Unknown where NULL stands
abbrev pub known_up_to : ℕ → List ℕ → List Bool → List Truth
known_up_to last offsets flags = known_of (λ offset. nat_le offset last) offsets flags

-- whether the offset of a place and the number pass a test
abbrev pub at_place : (ℕ → ℕ → Bool) → List ℕ → ℕ → ℕ → Bool
at_place test offsets number place = test (slice_index_or offsets place 0) number

-- the answers of sixteen places, the first in the lowest bit
abbrev pub of_sixteen : (ℕ → Bool) → ℕ → ℕ
of_sixteen test from = mask_l (map test (range_with_len from 16))
