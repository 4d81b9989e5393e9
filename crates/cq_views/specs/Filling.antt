-- Rows of tables where they are stored, and states that take them in.
use Rattle.std.specs.Prelude.{◌≡◌, if◌then◌else◌, List, []}
use Rattle.std.specs.List.{flat_map}
use Rattle.cq_model_bags.specs.Bag.{Weighted, once_each}
use Rattle.cq_table_columns.specs.Stored.{all_rows}
use Rattle.cq_views_model.specs.Delta.{changed}
use Rattle.cq_model.specs.Sources.{same_source}
use Rattle.cq_model.specs.Meaning.{Tables}
use Rattle.cq_model.specs.Views.{sources_of}
use Rattle.cq_model.specs.declared.query.Source.{Source}
use Rattle.cq_table_columns.specs.declared.stored_source.StoredSource.{StoredSource}
use Rattle.cq_views_state.specs.State.{AreBags, AreAsTold, AreCountable, CanPrepare, StandsFor}
use Rattle.cq_views_state.specs.declared.state.ViewState.{ViewState}

-- a source with these rows, and the others with none
abbrev pub only : Source → Weighted → Tables
only source xs other = if same_source source other then xs else []

-- each source by the rows of all its entries, each of them once
abbrev pub bags_at : List StoredSource → Tables
bags_at tables source = flat_map (λ t. only t.source (once_each (all_rows t.rows)) source) tables

-- the state stands for bags of stored rows, and they and these are few enough
pub record CanFill (v : ViewState) (more : Tables) : Type 0 where
  pub can : CanPrepare v more
  pub bags : AreBags can.tables × AreBags more
  pub countable : AreCountable (sources_of v.query) (changed can.tables more)

-- a state of the same query at the same epochs stands for the rows with these put in
pub record Fills (more : Tables) (old new : ViewState) : Type 0 where
  pub query : new.query ≡ old.query
  pub widths : new.widths ≡ old.widths
  pub epoch : new.epoch ≡ old.epoch
  pub built : new.built ≡ old.built
  pub stands : (tables : Tables) → StandsFor old tables → AreBags tables → AreAsTold old tables more
      → StandsFor new (changed tables more)
