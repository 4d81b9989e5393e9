-- Texts of two lists, compared place by place.
use Rattle.std.specs.Cmp.Lexicographic.{slice_cmp}
use Rattle.std.specs.List.{range_with_len}
use Rattle.std.specs.Ordering.{is_lt, nat_cmp}
use Rattle.std.specs.Prelude.{ℕ, Bool, List, [], map, slice_index_or}
use Rattle.std.specs.Simd.Lanes.{mask_l}
use Rattle.std.specs.Str.{bytes_eq}

-- whether the two texts of a place have the same bytes
abbrev pub equal_at : List (List ℕ) → List (List ℕ) → ℕ → Bool
equal_at a b i = bytes_eq (slice_index_or a i []) (slice_index_or b i [])

-- whether the left text of a place stands before the right one, byte by byte
abbrev pub less_at : List (List ℕ) → List (List ℕ) → ℕ → Bool
less_at a b i = is_lt (slice_cmp nat_cmp (slice_index_or a i []) (slice_index_or b i []))

-- whether 64 texts have the same bytes, the first answer in the lowest bit
abbrev pub equal_from : List (List ℕ) → List (List ℕ) → ℕ → ℕ
equal_from a b from = mask_l (map (equal_at a b) (range_with_len from 64))

-- whether 64 texts stand before others, the first answer in the lowest bit
abbrev pub less_from : List (List ℕ) → List (List ℕ) → ℕ → ℕ
less_from a b from = mask_l (map (less_at a b) (range_with_len from 64))
