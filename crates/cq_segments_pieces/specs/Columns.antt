-- Rows that are kept column by column.
use Rattle.std.specs.Prelude.{ℕ, ◌<◌, ◌≡◌, ◌≤◌, List, drop, length, map}
use Rattle.std.specs.List.{All, AllByRecursion, range_with_len}
use Rattle.cq_values.specs.Value.{Row}
use Rattle.cq_values.specs.declared.value.Value.{Value}
use Rattle.cq_encodings.specs.AnyEncoded.{encoded_values}
use Rattle.cq_encodings.specs.declared.any_encoded.AnyEncoded.{AnyEncoded}
use Rattle.cq_encodings_vectors.specs.Parts.{part_of}
use Rattle.cq_vectors.specs.Batch.{row_at}
use Rattle.cq_vectors.specs.Gathered.{column_of}

-- the rows at the first places of columns
abbrev pub rows_of_columns : List (List Value) → ℕ → List Row
rows_of_columns columns len = map (row_at columns) (range_with_len 0 len)

-- the first columns of rows
abbrev pub columns_of : List Row → ℕ → List (List Value)
columns_of rows width = map (column_of rows) (range_with_len 0 width)

-- each column has so many values
abbrev pub AreLong : ℕ → List (List Value) → Type 0
AreLong len columns = All (λ values. length values ≡ len) columns

-- as many values in each column as there are rows, which are 1 to 1,024
pub record AreColumns (columns : List (List Value)) (len : ℕ) : Type 0 where
  pub some : 0 < len
  pub few : len ≤ 1024
  pub long : AreLong len columns

-- each row has so many values
abbrev pub AreWide : ℕ → List Row → Type 0
AreWide width rows = AllByRecursion (λ row. length row ≡ width) rows

-- the values of each encoded column
abbrev pub columns_in : List AnyEncoded → List (List Value)
columns_in encoded = map encoded_values encoded

-- the rows of encoded columns
abbrev pub encoded_rows : List AnyEncoded → ℕ → List Row
encoded_rows encoded len = rows_of_columns (columns_in encoded) len

-- of each encoded column the values from 1,024 * k on, at most 1,024
abbrev pub parts_of : ℕ → List AnyEncoded → List (List Value)
parts_of k encoded = map (λ column. part_of k (encoded_values column)) encoded

-- the values of one of them in a part from a place on
abbrev pub values_from : AnyEncoded → ℕ → ℕ → List Value
values_from column k from = drop from (part_of k (encoded_values column))

-- the rows of a part from a place on
abbrev pub rows_of_part : List AnyEncoded → ℕ → ℕ → ℕ → List Row
rows_of_part encoded k from len = drop from (rows_of_columns (parts_of k encoded) len)

-- an early part has so many rows, and one of them at the place or behind it
pub record IsPart (encoded : List AnyEncoded) (k from len : ℕ) : Type 0 where
  pub early : k < 64
  pub left : from < len
  pub are : AreColumns (parts_of k encoded) len
