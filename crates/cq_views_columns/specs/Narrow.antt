-- A query over rows that have the columns alone which it reads.
use Rattle.std.specs.Prelude.{◌≡◌, ◌↔◌, ℕ, ◌≤◌, if◌then◌else◌, List, [], ◌∷◌, map, filter, Option}
use Rattle.std.specs.List.{range_with_len}
use Rattle.std.specs.Option.{option_map}
use Rattle.cq_model_bags.specs.Bag.{IsBag, projected}
use Rattle.cq_model.specs.Expr.{Cond, Expr}
use Rattle.cq_model.specs.Pushed.{HaveWidths}
use Rattle.cq_model.specs.Sources.{same_source}
use Rattle.cq_model.specs.Group.{key_of}
use Rattle.cq_model.specs.Meaning.{Tables, meaning, MeaningInRange}
use Rattle.cq_model.specs.Sizes.{column_sizes}
use Rattle.cq_model.specs.Views.{sources_of}
use Rattle.cq_model.specs.declared.query.Equality.{Equality}
use Rattle.cq_model.specs.declared.query.Join.{Join}
use Rattle.cq_model.specs.declared.query.Query.{Query}
use Rattle.cq_model.specs.declared.query.Source.{Source}
use Rattle.cq_views_model.specs.Query.{CanBeKept}
use Rattle.cq_views_model.specs.Delta.{joins_work}
use Rattle.cq_model_terms.specs.Places.{place_in}
use Rattle.cq_views_columns.specs.Places.{places_from}
use Rattle.cq_views_columns.specs.Reads.{is_read}
use Rattle.cq_model_terms.specs.Renamed.{renamed_cond}
use Rattle.cq_views_columns.specs.Renamed.{renamed_items, renamed_shape}
use Rattle.cq_views_columns.specs.declared.columns.SourceColumns.{SourceColumns}
use Rattle.cq_views_columns.specs.declared.narrow_query.NarrowQuery.{NarrowQuery}

-- the columns of a source, by its first entry
abbrev pub columns_at : List SourceColumns → Source → List ℕ
columns_at [] source = []
columns_at (x ∷ sources) source = if same_source x.source source then x.columns else columns_at sources source

-- the rows of each source with these columns alone
abbrev pub narrowed_bags : List SourceColumns → Tables → Tables
narrowed_bags columns tables source = projected (key_of (columns_at columns source)) (tables source)

-- the columns of a source that a query reads, rising
abbrev pub columns_read : Query → List ℕ → Source → ℕ → List ℕ
columns_read q widths source wide = filter (is_read q widths source) (range_with_len 0 wide)

-- those of each of several sources of these widths
abbrev pub sources_read : Query → List ℕ → List Source → List ℕ → List SourceColumns
sources_read q all (s ∷ sources) (wide ∷ widths) = record { source = s; columns = columns_read q all s wide } ∷ sources_read q all sources widths
sources_read q all sources widths = []

-- where the columns of these sources stand in the joined rows
abbrev pub joined_places : List SourceColumns → List Source → List ℕ → List ℕ
joined_places columns sources widths = places_from (columns_at columns) 0 sources widths

-- an ON over rows with these columns alone
abbrev pub renamed_on : (ℕ → ℕ) → List ℕ → List Equality → List Equality
renamed_on to own on = map (λ e. record { left = to e.left; right = place_in own e.right }) on

-- and a join
abbrev pub renamed_join : (ℕ → ℕ) → (Source → List ℕ) → Join → Join
renamed_join to columns join = record { source = join.source; on = renamed_on to (columns join.source) join.on }

-- several joins; these are the places of the columns in the joined rows
abbrev pub renamed_joins : List ℕ → (Source → List ℕ) → List Join → List Join
renamed_joins places columns joins = map (renamed_join (place_in places) columns) joins

-- WHERE with its columns at these places
abbrev pub filter_at : List ℕ → Query → Option Cond
filter_at places q = option_map (renamed_cond (place_in places)) q.filter

-- the items of a query with their columns there
abbrev pub items_at : List ℕ → Query → List Expr
items_at places q = renamed_items (place_in places) q.shape q.items

-- a query over rows with these columns alone
abbrev pub renamed_query : List ℕ → (Source → List ℕ) → Query → Query
renamed_query places columns q = record q {
  joins = renamed_joins places columns q.joins;
  filter = filter_at places q;
  shape = renamed_shape (place_in places) q.shape;
  items = items_at places q;
}

-- a query over rows with these columns alone, whose sources have these widths
abbrev pub renamed_over : Query → List Source → List ℕ → List SourceColumns → Query
renamed_over q sources widths columns = renamed_query (joined_places columns sources widths) (columns_at columns) q

-- bags whose rows have as many columns as these widths say, source by source of FROM
pub record HaveColumns (q : Query) (widths : List ℕ) (tables : Tables) : Type 0 where
  pub width : Source → ℕ
  pub from : map width (sources_of q) ≡ widths
  pub rows : HaveWidths width tables
  pub bags : (source : Source) → IsBag (tables source)

-- over these bags it is in range where the query is in range over theirs
abbrev pub IsInRangeAlike : Query → NarrowQuery → Tables → Type 0
IsInRangeAlike query new tables = MeaningInRange new.query (narrowed_bags new.columns tables) ↔ MeaningInRange query tables

-- tables and changes whose rows have as many columns as these widths say, source by source of FROM
pub record HaveColumnsAlike (q : Query) (widths : List ℕ) (tables changes : Tables) : Type 0 where
  pub width : Source → ℕ
  pub from : map width (sources_of q) ≡ widths
  pub rows : HaveWidths width tables
  pub more : HaveWidths width changes

-- the work of the joins of a query for changes of its sources is no less over the whole rows
abbrev pub IsLessWork : Query → NarrowQuery → Tables → Tables → Type 0
IsLessWork query new tables changes =
    joins_work new.query (narrowed_bags new.columns tables) (narrowed_bags new.columns changes) ≤ joins_work query tables changes

-- it reads the same columns alone, has the same bag over the narrower rows, where its joins do no more work, and is kept and shown wherever the query is
pub record IsNarrowOf (query : Query) (widths : List ℕ) (new : NarrowQuery) : Type 0 where
  pub columns : new.columns ≡ sources_read query widths (sources_of query) widths
  pub bag : (tables : Tables) → HaveColumns query widths tables → meaning new.query (narrowed_bags new.columns tables) ≡ meaning query tables
  pub range : (tables : Tables) → HaveColumns query widths tables → IsInRangeAlike query new tables
  pub sources : sources_of new.query ≡ sources_of query
  pub distinct : new.query.distinct ≡ query.distinct
  pub sizes : column_sizes new.query ≡ column_sizes query
  pub kept : CanBeKept query → CanBeKept new.query
  pub work : (tables changes : Tables) → HaveColumnsAlike query widths tables changes → IsLessWork query new tables changes
