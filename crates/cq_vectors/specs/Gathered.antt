-- The values of one column of rows, and what a column of one kind can hold of them.
use Rattle.std.specs.Prelude.{ℕ, ◌≡◌, FitsSigned, List, map}
use Rattle.std.specs.Borrow.{Bor}
use Rattle.std.specs.Int.{Width}
use Rattle.cq_values.specs.declared.value.Value.{Value}
use Rattle.cq_values.specs.Days.{IsDay}
use Rattle.cq_values.specs.Order.{number, bytes}
use Rattle.cq_values.specs.Value.{Row, column}
use Rattle.cq_model.specs.Condition.{is_null}
use Rattle.cq_vectors_stored.specs.Columns.{day_unless, number_unless, text_unless}

-- the value of the column in each row, and NULL where a row has no such column
abbrev pub column_of : List Row → ℕ → List Value
column_of rows at = map (λ row. column row at) rows

-- rows that are lent
abbrev pub lent_rows : List (Bor Row) → List Row
lent_rows rows = map (λ row. row.now) rows

-- a number of so many bits, or NULL
pub record IsNumber (width : Width) (value : Value) : Type 0 where
  pub kind : number_unless (number value) (is_null value) ≡ value
  pub fits : FitsSigned width (number value)

-- a day, or NULL
pub record IsDate (value : Value) : Type 0 where
  pub kind : day_unless (number value) (is_null value) ≡ value
  pub day : IsDay (number value)

-- a text, or NULL
abbrev pub IsText : Value → Type 0
IsText value = text_unless (bytes value) (is_null value) ≡ value
