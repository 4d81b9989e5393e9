-- Rows of tables: no number is too large in one that fits its columns.
use Rattle.std.proofs.Common.{◌≤◌, zero, suc, ◌^◌, List, [], ◌∷◌, arith}
use Rattle.std.specs.List.{AllByRecursion}
use Rattle.std.proofs.lemmas.Int.{ints}
use Rattle.cq_values.specs.declared.column.ColumnDef.{ColumnDef}
use Rattle.cq_values.specs.declared.value.Value.{Value}
use Rattle.cq_values.specs.declared.value.Value.TheVariants.{Null, Number, Day, Text}
use Rattle.cq_values.specs.Value.{Row}
use Rattle.cq_model.specs.Width.{value_size}
use Rattle.cq_model_state.specs.Fitting.{FitsColumn, FitsColumns, AreFitting}
use Rattle.cq_model_state.specs.State.{TableOf}
use Rattle.cq_model.specs.Sizes.{IsStored, stored_sizes}
use Rattle.cq_model_laws.specs.Sizes.{HasSizes}
use Rattle.cq_model_laws.proofs.Columns.{sizes-beside}
use Rattle.cq_model_laws.proofs.Fits.{FitBeside}

-- no value that fits a column is larger than a stored number can be
value_small : (d : ColumnDef) (v : Value) → FitsColumn d v → value_size v ≤ 2 ^ 63
value_small d Null fits = omega arith
value_small d (Number n) fits = omega (arith, ints, fits.1)
value_small d (Day n) fits = omega arith
value_small d (Text t) fits = omega arith

row_stored : (columns : List ColumnDef) (row : Row) → FitsColumns columns row → IsStored row
row_stored [] [] fits i = omega arith
row_stored [] (v ∷ row) fits i = absurd fits
row_stored (d ∷ columns) [] fits i = absurd fits
row_stored (d ∷ columns) (v ∷ row) fits zero = value_small d v fits.0
row_stored (d ∷ columns) (v ∷ row) fits (suc i) = row_stored columns row fits.1 i

pub rows_stored : (columns : List ColumnDef) (rows : List Row) → AllByRecursion (FitsColumns columns) rows → AllByRecursion IsStored rows
rows_stored columns [] fitting = tt
rows_stored columns (row ∷ rows) fitting = (row_stored columns row fitting.0, rows_stored columns rows fitting.1)

-- a row that fits the columns of a table has their sizes
beside_columns : (columns : List ColumnDef) (row : Row) → FitsColumns columns row → FitBeside row (stored_sizes columns)
beside_columns [] [] fits = tt
beside_columns [] (v ∷ row) fits = absurd fits
beside_columns (d ∷ columns) [] fits = absurd fits
beside_columns (d ∷ columns) (v ∷ row) fits = (value_small d v fits.0, beside_columns columns row fits.1)

pub rows_sized : (columns : List ColumnDef) (rows : List Row) → AllByRecursion (FitsColumns columns) rows → AllByRecursion (HasSizes (stored_sizes columns)) rows
rows_sized columns [] fitting = tt
rows_sized columns (row ∷ rows) fitting = (sizes-beside row (stored_sizes columns) (beside_columns columns row fitting.0), rows_sized columns rows fitting.1)

pub tables_stored : (ts : List TableOf) → AreFitting ts → AllByRecursion (λ t. AllByRecursion IsStored t.rows) ts
tables_stored [] fitting = tt
tables_stored (t ∷ ts) fitting = (rows_stored t.columns t.rows fitting.0, tables_stored ts fitting.1)
