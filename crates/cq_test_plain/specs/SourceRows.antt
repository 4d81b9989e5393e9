-- Sources and their rows, where they are lent.
use Rattle.std.specs.Prelude.{if◌then◌else◌, List, [], ◌∷◌}
use Rattle.cq_values.specs.Value.{Row}
use Rattle.cq_model_bags.specs.Bag.{once_each}
use Rattle.cq_model.specs.declared.query.Source.{Source}
use Rattle.cq_model.specs.Meaning.{Tables}
use Rattle.cq_model.specs.Sources.{same_source}
use Rattle.cq_test_plain.specs.declared.source_rows.Lent.{Lent}

-- the rows of the first entry of a source, and these where there is none
abbrev pub rows_or : List Lent → Source → List Row → List Row
rows_or [] source rows = rows
rows_or (lent ∷ sources) source rows = if same_source lent.source source then lent.rows.now else rows_or sources source rows

-- each source by the rows of its first entry, and by no row where there is none
abbrev pub lent_bags : List Lent → Tables
lent_bags sources source = once_each (rows_or sources source [])
