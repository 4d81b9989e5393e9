-- Rows that are cut to the columns that a query reads of its sources.
use Rattle.std.specs.Prelude.{◌≡◌, ◌++◌, ℕ, ℤ, if◌then◌else◌, List, [], ◌∷◌, length, map, Option, Some, None}
use Rattle.cq_values.specs.Value.{Row}
use Rattle.cq_model_bags.specs.Bag.{SameBag, Weighted, once_each, projected}
use Rattle.cq_model_bags.specs.Size.{IsClean}
use Rattle.cq_table_columns.specs.Stored.{all_rows}
use Rattle.cq_views_model.specs.Delta.{SameTables}
use Rattle.cq_views.specs.Changes.{weighed}
use Rattle.cq_views.specs.Filling.{Fills, only}
use Rattle.cq_model.specs.Sources.{same_source}
use Rattle.cq_model.specs.Group.{key_of}
use Rattle.cq_model.specs.Meaning.{Tables}
use Rattle.cq_model.specs.Views.{sources_of}
use Rattle.cq_model.specs.declared.query.Query.{Query}
use Rattle.cq_model.specs.declared.query.Source.{Source}
use Rattle.cq_views_columns.specs.declared.columns.SourceColumns.{SourceColumns}
use Rattle.cq_sides_weights.specs.Held.{Held}
use Rattle.cq_table_columns.specs.declared.stored_source.StoredSource.{StoredSource}
use Rattle.cq_views_state.specs.State.{StandsFor}
use Rattle.cq_views_state.specs.Work.{work_of}
use Rattle.cq_views_state.specs.declared.state.ViewState.{ViewState}

-- the first entry of a source
abbrev pub entry_of : List SourceColumns → Source → Option SourceColumns
entry_of [] source = None
entry_of (x ∷ columns) source = if same_source x.source source then Some x else entry_of columns source

-- rows with the columns of an entry alone, and none without an entry
abbrev pub cut_to : Option SourceColumns → Weighted → Weighted
cut_to None xs = []
cut_to (Some x) xs = projected (key_of x.columns) xs

-- each source that has an entry by its rows with these columns alone, and the others by none
abbrev pub cut_bags : List SourceColumns → Tables → Tables
cut_bags columns tables source = cut_to (entry_of columns source) (tables source)

-- how many columns rows have that are cut to those of an entry
abbrev pub cut_width : Option SourceColumns → ℕ
cut_width None = 0
cut_width (Some x) = length x.columns

-- and those of a source
abbrev pub width_at : List SourceColumns → Source → ℕ
width_at columns source = cut_width (entry_of columns source)

-- and those of each source of a query, in the order of FROM
abbrev pub cut_widths : List SourceColumns → Query → List ℕ
cut_widths columns q = map (width_at columns) (sources_of q)

-- ---- changes
-- rows with their weights, cut to columns, each row once
pub record IsCut (columns : List ℕ) (xs : Weighted) (cut : Held) : Type 0 where
  pub same : SameBag cut.entries (projected (key_of columns) xs)
  pub clean : IsClean cut.entries

-- so it is with the changes of each source
pub record AreCut (columns : List SourceColumns) (changes cut : Tables) : Type 0 where
  pub same : SameTables cut (cut_bags columns changes)
  pub clean : (source : Source) → IsClean (cut source)

-- each of these rows is put in with a weight, cut to columns
abbrev pub PutsCut : List ℕ → ℤ → List Row → Held → Held → Type 0
PutsCut columns weight rows old new = SameBag new.entries (old.entries ++ weighed (map (key_of columns) rows) weight)

-- ---- rows of tables, where they are stored
-- the rows of one table, each of them once
abbrev pub cut_table : List SourceColumns → StoredSource → Tables
cut_table columns table = cut_bags columns (only table.source (once_each (all_rows table.rows)))

-- a source with rows that are cut to these columns, each of them once
abbrev pub cut_only : Source → List ℕ → List Row → Tables
cut_only source columns rows = only source (once_each (map (key_of columns) rows))

-- each of these rows once, cut to columns
abbrev pub IsCutOnce : List ℕ → List Row → Held → Type 0
IsCutOnce columns rows cut = SameBag cut.entries (once_each (map (key_of columns) rows))

-- a state takes in these rows of a source, cut to columns
abbrev pub FillsFrom : Source → List ℕ → List Row → ViewState → ViewState → Type 0
FillsFrom source columns rows old new = Fills (cut_only source columns rows) old new

-- the state of a query stands at the epoch for rows that are cut to its columns, and no work was counted
pub record IsFilled (columns : List SourceColumns) (q : Query) (now : ℕ) (rows : Tables) (state : ViewState) : Type 0 where
  pub query : state.query ≡ q
  pub widths : state.widths ≡ cut_widths columns q
  pub epoch : state.epoch ≡ now
  pub built : state.built ≡ now
  pub stands : StandsFor state (cut_bags columns rows)
  pub uncounted : work_of state ≡ 0
