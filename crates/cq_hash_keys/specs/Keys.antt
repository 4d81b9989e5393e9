-- Keys, each once, as they were first met; the number of each is its place among them.
use Rattle.std.specs.Prelude.{ℕ, ◌≡◌, ◌<◌, List, [], ◌∷◌, ◌++◌, map, length, position, slice_index_or, Option}
use Rattle.std.specs.Borrow.{Bor}
use Rattle.std.specs.List.{AllByRecursion, IsDistinct, range_with_len}
use Rattle.cq_values.specs.declared.value.Value.{Value}
use Rattle.cq_values.specs.Value.{Row}
use Rattle.cq_values.specs.Order.{same_row}
use Rattle.cq_model_bags.specs.Bag.{firsts}
use Rattle.cq_vectors.specs.Batch.{row_at}

-- keys of so many values
pub record StoredKeys : Type 0 where
  pub width : ℕ
  pub keys : List Row

-- a key of so many values
abbrev pub HasValues : ℕ → Row → Type 0
HasValues width key = length key ≡ width

-- each key has the width, and none is there twice
pub record AreKeys (width : ℕ) (keys : List Row) : Type 0 where
  pub wide : AllByRecursion (HasValues width) keys
  pub once : IsDistinct same_row keys

-- the values of columns that are lent
abbrev pub values_of : List (Bor (List Value)) → List (List Value)
values_of columns = map (λ column. column.now) columns

-- the key at a place of columns that are lent
abbrev pub row_in : List (Bor (List Value)) → ℕ → Row
row_in columns place = row_at (values_of columns) place

-- a column of so many values
abbrev pub HasLength : ℕ → List Value → Type 0
HasLength len values = length values ≡ len

-- the key at each place of the columns
abbrev pub key_rows : ℕ → List (List Value) → List Row
key_rows len columns = map (row_at columns) (range_with_len 0 len)

-- the key at each place of columns that are lent
abbrev pub rows_in : ℕ → List (Bor (List Value)) → List Row
rows_in len columns = key_rows len (values_of columns)

-- what is new of these keys was added
abbrev pub AddsKeys : List Row → List Row → List Row → Type 0
AddsKeys old keys new = new ≡ firsts (old ++ keys)

-- the key of a number
abbrev pub key_at : List Row → ℕ → Row
key_at keys number = slice_index_or keys number []

-- each place of the columns has the number of its key
abbrev pub AreNumbers : List Row → ℕ → List (List Value) → List ℕ → Type 0
AreNumbers keys len columns numbers = map (key_at keys) numbers ≡ key_rows len columns

-- each place of columns that are lent has the number of its key
abbrev pub AreNumbersIn : List Row → ℕ → List (Bor (List Value)) → List ℕ → Type 0
AreNumbersIn keys len columns numbers = AreNumbers keys len (values_of columns) numbers

-- the number of a key, and None where it was never met
abbrev pub place_of : List Row → Row → Option ℕ
place_of keys key = position (same_row key) keys

-- the numbers of keys
abbrev pub places_of : List Row → List Row → List (Option ℕ)
places_of known keys = map (place_of known) keys

-- each number is that of a key
abbrev pub AreWithin : List Row → List ℕ → Type 0
AreWithin keys numbers = AllByRecursion (λ number. number < length keys) numbers
