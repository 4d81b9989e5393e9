-- What holds of the rows of files.
use Rattle.std.specs.Prelude.{◌≡◌, ◌<◌, ℕ, List, length, Ok, IsUtf8}
use Rattle.std.specs.List.{AllByRecursion, flat_map}
use Rattle.csv.specs.Reading.{strip_bom}
use Rattle.cq_values.specs.Days.{IsDay}
use Rattle.cq_values.specs.Value.{Row}
use Rattle.cq_values.specs.declared.column.ColumnDef.{ColumnDef}
use Rattle.cq_values.specs.declared.value.Value.{Value}
use Rattle.cq_values.specs.declared.value.Value.TheVariants.{Day, Text}
use Rattle.cq_values.specs.Printed.{row_text}
use Rattle.cq_model_state.specs.Fitting.{FitsColumns}
use Rattle.cq_binder_rules.specs.Records.{file_rows}

-- the rows that a file makes in columns fit them
abbrev pub ReadRowsFit : Type 0
ReadRowsFit = (columns : List ColumnDef) (bytes : List ℕ) (rows : List Row) → file_rows columns bytes ≡ Ok rows → AllByRecursion (FitsColumns columns) rows

-- a text in UTF-8, a day of the calendar, and any number and NULL: what values of the program are
abbrev pub IsSound : Value → Type 0
IsSound (Text t) = IsUtf8 t
IsSound (Day n) = IsDay n
IsSound v = Unit {0}

-- the rows of a table are read back from the lines that show them, if these do not begin with U+FEFF
abbrev pub PrintedRowsReadBack : Type 0
PrintedRowsReadBack = (columns : List ColumnDef) (rows : List Row)
    → 0 < length columns
    → AllByRecursion (FitsColumns columns) rows
    → AllByRecursion (AllByRecursion IsSound) rows
    → strip_bom (flat_map row_text rows) ≡ flat_map row_text rows
    → file_rows columns (flat_map row_text rows) ≡ Ok rows
