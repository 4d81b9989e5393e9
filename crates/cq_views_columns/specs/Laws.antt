-- What holds of a query whose columns are renamed. Each statement is the contract of a function in laws.rt.
use Rattle.std.specs.Prelude.{◌≡◌, ℕ, List, length}
use Rattle.cq_model_bags.specs.Bag.{IsBag}
use Rattle.cq_model_bags.specs.Join.{HasWidth}
use Rattle.cq_deltas_joins.specs.Steps.{AreStored}
use Rattle.cq_views_model.specs.Delta.{SameTables, changed}
use Rattle.cq_model.specs.Meaning.{Tables}
use Rattle.cq_model.specs.Views.{sources_of}
use Rattle.cq_model.specs.declared.query.Query.{Query}
use Rattle.cq_model.specs.declared.query.Source.{Source}
use Rattle.cq_views_columns.specs.Narrow.{IsNarrowOf, columns_at, narrowed_bags, renamed_over, sources_read}
use Rattle.cq_views_columns.specs.declared.columns.SourceColumns.{SourceColumns}
use Rattle.cq_views_columns.specs.declared.narrow_query.NarrowQuery.{NarrowQuery}

-- the columns that a query reads, and the query with its columns renamed to where they stand in the narrower rows
pub record IsRenamedOf (whole : Query) (widths : List ℕ) (new : NarrowQuery) : Type 0 where
  pub columns : new.columns ≡ sources_read whole widths (sources_of whole) widths
  pub query : new.query ≡ renamed_over whole (sources_of whole) widths new.columns

-- it means the same over the narrower rows
abbrev pub RenamedMeansSame : Type 0
RenamedMeansSame = (whole : Query) (widths : List ℕ) (new : NarrowQuery) → IsRenamedOf whole widths new → IsNarrowOf whole widths new

-- narrower rows have these columns alone, change as the whole rows do, and are a bag, and stored, where these are
pub record AreNarrow (columns : List SourceColumns) (source : Source) : Type 0 where
  pub wide : (tables : Tables) → HasWidth (length (columns_at columns source)) (narrowed_bags columns tables source)
  pub changed : (tables changes : Tables)
      → narrowed_bags columns (changed tables changes) source ≡ changed (narrowed_bags columns tables) (narrowed_bags columns changes) source
  pub bag : (tables : Tables) → IsBag (tables source) → IsBag (narrowed_bags columns tables source)
  pub stored : (tables : Tables) → AreStored (tables source) → AreStored (narrowed_bags columns tables source)

-- so it is for each source, and the same bags give the same narrower bags
pub record NarrowRowsGoAlong : Type 0 where
  pub each : (columns : List SourceColumns) (source : Source) → AreNarrow columns source
  pub same : (columns : List SourceColumns) (tables others : Tables) → SameTables tables others
      → SameTables (narrowed_bags columns tables) (narrowed_bags columns others)
