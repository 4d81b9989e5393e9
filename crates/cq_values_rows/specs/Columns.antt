-- Rows that are kept column by column.
use Rattle.std.specs.Prelude.{ℕ, ◌≡◌, ◌<◌, ◌++◌, List, [], map, length, slice_index_or}
use Rattle.std.specs.Global.{Global}
use Rattle.std.specs.List.{AllByRecursion, range_with_len}
use Rattle.std.specs.Vec.Iter.{into_iter_items}
use Rattle.std.specs.declared.vec.IntoIter.{IntoIter}
use Rattle.std.specs.Simd.Lanes.{zip2}
use Rattle.cq_values.specs.declared.value.Value.{Value}
use Rattle.cq_values.specs.declared.value.Value.TheVariants.{Number}
use Rattle.cq_values.specs.Value.{Row, column}
use Rattle.cq_values_rows.specs.declared.value_column.ColumnForm.{ColumnForm}
use Rattle.cq_values_rows.specs.declared.value_column.ColumnForm.TheVariants as forms

-- the values of a column, of which those of 64 bits may stand as numbers
abbrev pub values_in : ColumnForm → List Value
values_in (forms.Numbers numbers) = map Number numbers.items
values_in (forms.Values values) = values.items

-- the values of the columns at one place
abbrev pub row_at : List (List Value) → ℕ → Row
row_at columns place = map (λ values. column values place) columns

-- the rows at the first places of columns
abbrev pub rows_of_columns : List (List Value) → ℕ → List Row
rows_of_columns columns len = map (row_at columns) (range_with_len 0 len)

-- what a column has in each row
abbrev pub column_of : List Row → ℕ → List Value
column_of rows at = map (λ row. column row at) rows

-- columns with the values of others behind their own
abbrev pub longer : List (List Value) → List (List Value) → List (List Value)
longer columns more = zip2 (λ values others. values ++ others) columns more

-- the first of the columns that are left
abbrev pub first_in : IntoIter (List Value) Global → List Value
first_in left = slice_index_or (into_iter_items left) 0 []

-- each column has so many values
abbrev pub AreLong : ℕ → List (List Value) → Type 0
AreLong len columns = AllByRecursion (λ values. length values ≡ len) columns

-- each place is below so many
abbrev pub AreBelow : ℕ → List ℕ → Type 0
AreBelow len places = AllByRecursion (λ place. place < len) places

-- the row at a place, and past the end one without values
abbrev pub row_or_none : List Row → ℕ → Row
row_or_none rows place = slice_index_or rows place []

-- the rows at places
abbrev pub rows_at : List Row → List ℕ → List Row
rows_at rows places = map (row_or_none rows) places
