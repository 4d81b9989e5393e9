-- Which rows the records of a file make for a table (docs/LANGUAGE.md, COPY). The first field that is refused decides.
use Rattle.std.specs.Prelude.{ℕ, ◌+◌, ◌==◌, if◌then◌else◌, List, [], ◌∷◌, length, Result, Ok, Err}
use Rattle.csv.specs.Reading.{default_config, records, strip_bom}
use Rattle.cq_values.specs.Value.{Row}
use Rattle.cq_values.specs.declared.column.ColumnDef.{ColumnDef}
use Rattle.cq_binder_rules.specs.declared.fault.Fault.{Fault}
use Rattle.cq_binder_rules.specs.declared.fault.Fault.TheVariants.{BadRecord}
use Rattle.cq_binder_rules.specs.Fields.{field_value}
use Rattle.cq_binder_rules.specs.Kinds.{◌and_then◌}

-- what each name of a file stands for
abbrev pub Files : Type 0
Files = List ℕ → List ℕ

-- the values of a record's fields, from the left
abbrev pub field_values : ℕ → List ColumnDef → List (List ℕ) → Result Row Fault
field_values at (d ∷ ds) (t ∷ ts) = field_value at d t and_then (λ v. field_values at ds ts and_then (λ vs. Ok (v ∷ vs)))
field_values at ds ts = Ok []

-- a record has as many fields as there are columns
abbrev pub record_row : List ColumnDef → ℕ → List (List ℕ) → Result Row Fault
record_row columns at fields = if length fields == length columns then field_values at columns fields else Err (BadRecord at)

-- the rows of records, the first of which has this number
abbrev pub record_rows : List ColumnDef → ℕ → List (List (List ℕ)) → Result (List Row) Fault
record_rows columns at [] = Ok []
record_rows columns at (r ∷ rs) =
    record_row columns at r and_then (λ row. record_rows columns (at + 1) rs and_then (λ rows. Ok (row ∷ rows)))

-- the records of a file, as `csv` reads them: with commas and double quotes, and without a header line
abbrev pub file_records : List ℕ → List (List (List ℕ))
file_records bytes = records default_config (strip_bom bytes)

-- the rows of a file, whose records count from 1
abbrev pub file_rows : List ColumnDef → List ℕ → Result (List Row) Fault
file_rows columns bytes = record_rows columns 1 (file_records bytes)
