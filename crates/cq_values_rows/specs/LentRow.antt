-- Rows that are read where they stand.
use Rattle.std.specs.Prelude.{List}
use Rattle.cq_values.specs.Value.{Row}
use Rattle.cq_values_rows.specs.Columns.{row_at}
use Rattle.cq_values_rows.specs.declared.lent_row.LentForm.{LentForm}
use Rattle.cq_values_rows.specs.declared.lent_row.LentForm.TheVariants as forms

-- the values of a row that stands in one list, or at a place of columns
abbrev pub lent_values : LentForm → Row
lent_values (forms.Values values) = values.now
lent_values (forms.Columns columns place) = row_at columns.now place
