-- Rows in lists of their own, in one list, or in columns.
use Rattle.std.specs.Prelude.{⊤, ◌≡◌, ◌+◌, ◌++◌, ◌∷◌, [], ℕ, List, Some, slice_get, take}
use Rattle.cq_values.specs.Value.{Row}
use Rattle.cq_values_rows.specs.Columns.{AreLong, rows_of_columns}
use Rattle.cq_values_rows.specs.declared.list.ColumnRows.{ColumnRows}
use Rattle.cq_values_rows.specs.declared.list.Form.{Form}
use Rattle.cq_values_rows.specs.declared.list.Form.TheVariants as forms

-- the rows of columns
abbrev pub rows_in : ColumnRows → List Row
rows_in rows = rows_of_columns rows.columns.items rows.len

-- the rows in each way
abbrev pub list_of : Form → List Row
list_of (forms.Listed rows) = rows.items
list_of (forms.Flat flat) = flat.rows
list_of (forms.Columns rows) = rows_in rows

-- each column has as many values as there are rows
abbrev pub AreWhole : ColumnRows → Type 0
AreWhole rows = AreLong rows.len rows.columns.items

abbrev pub IsWhole : Form → Type 0
IsWhole (forms.Listed rows) = ⊤
IsWhole (forms.Flat flat) = ⊤
IsWhole (forms.Columns rows) = AreWhole rows

-- the rows up to a place and the row there are the rows up to the next place
abbrev pub RowsComeInTurn : Type 0
RowsComeInTurn =
    (rows : List Row) (place : ℕ) (row : Row) → slice_get rows place ≡ Some row → take (place + 1) rows ≡ take place rows ++ row ∷ []
