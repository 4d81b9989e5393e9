-- The bags of lists of rows, by their numbers.
use Rattle.std.specs.Prelude.{ℕ, List, [], Option, slice_get, slice_index_or}
use Rattle.cq_values.specs.Value.{Row}
use Rattle.cq_model_bags.specs.Bag.{Weighted, once_each}
use Rattle.cq_model.specs.declared.query.Query.{Query}
use Rattle.cq_model.specs.declared.query.Source.TheVariants.{Table, View}
use Rattle.cq_model.specs.Meaning.{Tables}

-- the bag of the rows of a number, and no row past the end
abbrev pub rows_at : List (List Row) → ℕ → Weighted
rows_at lists at = once_each (slice_index_or lists at [])

-- the query of a number, and none past the end
abbrev pub query_at : List Query → ℕ → Option Query
query_at queries at = slice_get queries at

-- tables and views, each by its rows
abbrev pub stored_bags : List (List Row) → List (List Row) → Tables
stored_bags tables views (Table t) = rows_at tables t
stored_bags tables views (View v) = rows_at views v
