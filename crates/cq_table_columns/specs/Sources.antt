-- Sources and their rows, where they are stored.
use Rattle.std.specs.Prelude.{if◌then◌else◌, List, [], ◌∷◌}
use Rattle.cq_values.specs.Value.{Row}
use Rattle.cq_model_bags.specs.Bag.{once_each}
use Rattle.cq_table_columns.specs.Stored.{all_rows}
use Rattle.cq_model.specs.Sources.{same_source}
use Rattle.cq_model.specs.declared.query.Source.{Source}
use Rattle.cq_model.specs.Meaning.{Tables}
use Rattle.cq_table_columns.specs.declared.stored_source.StoredSource.{StoredSource}

-- the rows of the first entry of a source, and these where there is none
abbrev pub rows_or : List StoredSource → Source → List Row → List Row
rows_or [] source rows = rows
rows_or (stored ∷ sources) source rows = if same_source stored.source source then all_rows stored.rows else rows_or sources source rows

-- each source by the rows of its first entry, and by no row where there is none
abbrev pub stored_bags : List StoredSource → Tables
stored_bags sources source = once_each (rows_or sources source [])
