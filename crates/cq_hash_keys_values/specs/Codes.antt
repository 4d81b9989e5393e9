-- Numbers as codes in a list: each code is one more than its number, and 0 leaves the number to a map.
use Rattle.std.specs.Prelude.{◌≡◌, ℕ, ◌-◌, nat_eq, List, Option, Some, None, if◌then◌else◌, slice_index_or}

-- the code at a place of the list, and 0 behind its end and where there is no place
abbrev pub code_in : List ℕ → Option ℕ → ℕ
code_in codes (Some place) = slice_index_or codes place 0
code_in codes None = 0

-- the number of a code, which is that of the map where the code is 0
abbrev pub code_or : ℕ → Option ℕ → Option ℕ
code_or code found = if nat_eq code 0 then found else Some (code - 1)

-- the same code at each place of a list and behind its end
abbrev pub ReadsAlike : List ℕ → List ℕ → Type 0
ReadsAlike old new = (place : ℕ) → slice_index_or new place 0 ≡ slice_index_or old place 0
