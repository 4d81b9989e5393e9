-- Tables and views by their numbers, as they are lent.
use Rattle.std.specs.Prelude.{◌≡◌, List, slice_index_or}
use Rattle.cq_values.specs.Value.{Row}
use Rattle.cq_test_plain.specs.SourceRows.{rows_or}
use Rattle.cq_test_plain.specs.declared.source_rows.Lent.{Lent}
use Rattle.cq_model.specs.declared.query.Source.{Source}
use Rattle.cq_model.specs.declared.query.Source.TheVariants.{Table, View}

-- the rows of a number of tables or of views, and these past the end
abbrev pub numbered_or : List (List Row) → List (List Row) → Source → List Row → List Row
numbered_or tables views (Table t) rows = slice_index_or tables t rows
numbered_or tables views (View v) rows = slice_index_or views v rows

-- the entries are these tables and views, each under its number
pub record HoldRows (tables views : List (List Row)) (sources : List Lent) : Type 0 where
  pub at : (source : Source) (rows : List Row) → rows_or sources source rows ≡ numbered_or tables views source rows
