-- The values of one column, as they come.
use Rattle.std.specs.Prelude.{◌≡◌, ◌++◌, Bool, true, false, List, [], ◌∷◌, map}
use Rattle.cq_values.specs.declared.value.Value.{Value}
use Rattle.cq_writestore_rows.specs.declared.typed_column.TypedColumn.{TypedColumn}
use Rattle.cq_writestore_rows.specs.declared.typed_column.TypedColumn.TheVariants as column

-- the values, which those of one type are themselves
abbrev pub column_values : TypedColumn → List Value
column_values (column.Numbers numbers) = numbers
column_values (column.Texts texts) = texts
column_values (column.Values values) = values.items

-- and those of each
abbrev pub values_in : List TypedColumn → List (List Value)
values_in columns = map column_values columns

-- the value stands behind the others where it is said to fit, and else they are as before
abbrev pub Puts : Value → List Value → List Value → Bool → Type 0
Puts value old new true = new ≡ old ++ value ∷ []
Puts value old new false = new ≡ old
