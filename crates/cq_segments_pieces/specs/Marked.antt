-- Stored rows with their marks: a row that has a mark is deleted, and stays where it is.
use Rattle.std.specs.Prelude.{if◌then◌else◌, ℕ, zero, suc, ◌+◌, ◌≡◌, Bool, true, false, List, [], ◌∷◌, length, map}
use Rattle.cq_values.specs.Value.{Row}

-- a stored row, and whether it is deleted
pub record MarkedRow : Type 0 where
  pub row : Row
  pub marked : Bool

-- the stored rows, deleted or not
abbrev pub rows_of : List MarkedRow → List Row
rows_of stored = map (λ m. m.row) stored

-- and whether each of them is deleted
abbrev pub marks_of : List MarkedRow → List Bool
marks_of stored = map (λ m. m.marked) stored

-- the rows without a mark, in order
abbrev pub live : List MarkedRow → List Row
live [] = []
live (m ∷ stored) = if m.marked then live stored else m.row ∷ live stored

-- how many rows have a mark
abbrev pub marked_count : List MarkedRow → ℕ
marked_count [] = 0
marked_count (m ∷ stored) = (if m.marked then 1 else 0) + marked_count stored

-- rows none of which has a mark
abbrev pub unmarked : List Row → List MarkedRow
unmarked rows = map (λ row. record { row = row; marked = false }) rows

-- rows by their flags, and without a mark where there is no flag
abbrev pub with_flags : List Row → List Bool → List MarkedRow
with_flags [] flags = []
with_flags (row ∷ rows) [] = unmarked (row ∷ rows)
with_flags (row ∷ rows) (flag ∷ flags) = record { row = row; marked = flag } ∷ with_flags rows flags

-- each row has a flag, and so many are set
pub record AreCounted (rows : List Row) (flags : List Bool) (marked : ℕ) : Type 0 where
  pub long : length flags ≡ length rows
  pub count : marked ≡ marked_count (with_flags rows flags)

-- the row at a place gets its mark
abbrev pub with_mark : ℕ → List MarkedRow → List MarkedRow
with_mark place [] = []
with_mark zero (m ∷ stored) = record { row = m.row; marked = true } ∷ stored
with_mark (suc place) (m ∷ stored) = m ∷ with_mark place stored

-- the rows at some places get theirs
abbrev pub with_marks : List ℕ → List MarkedRow → List MarkedRow
with_marks [] stored = stored
with_marks (place ∷ places) stored = with_marks places (with_mark place stored)

-- the places of the rows without a mark, counted from this place on
abbrev pub live_from : ℕ → List MarkedRow → List ℕ
live_from place [] = []
live_from place (m ∷ stored) = if m.marked then live_from (suc place) stored else place ∷ live_from (suc place) stored
