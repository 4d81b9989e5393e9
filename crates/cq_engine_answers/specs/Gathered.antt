-- What is read of the sources that FROM names: the rows that views show, and all rows where they are lent.
use Rattle.std.specs.Prelude.{◌≡◌, List, ◌⊎◌, Some, slice_get}
use Rattle.std.specs.List.{AllByRecursion, Any}
use Rattle.cq_values.specs.Value.{Row}
use Rattle.cq_model_bags.specs.Canonical.{bag_of}
use Rattle.cq_model_state.specs.State.{TableOf, ViewOf, rows_in}
use Rattle.cq_model_laws.specs.Sizes.{HasSizes}
use Rattle.cq_model.specs.Sizes.{column_sizes}
use Rattle.cq_binder_rules.specs.declared.fault.Fault.{Fault}
use Rattle.cq_binder_rules.specs.declared.fault.Fault.TheVariants.{Memory, SumOutOfRange}
use Rattle.cq_model.specs.declared.query.Source.{Source}
use Rattle.cq_model.specs.declared.query.Source.TheVariants.{Table, View}
use Rattle.cq_table_columns.specs.Stored.{all_rows}
use Rattle.cq_table_columns.specs.declared.stored_source.StoredSource.{StoredSource}
use Rattle.cq_model_state.specs.Pointwise.{Pointwise}
use Rattle.cq_views.specs.Shown.{AreRowsOf, CanShow, IsNotShown, IsShown}
use Rattle.cq_views.specs.declared.kept_view.KeptView.{KeptView}
use Rattle.cq_engine_answers.specs.Reading.{IsSourceThere}
use Rattle.cq_engine_answers.specs.declared.gathered.Gathered.{Gathered}
use Rattle.cq_engine_tables.specs.Views.{NamedView}

-- ---- What views show
-- the view stands for bags of stored rows, of which a join has not too many to be counted
abbrev pub IsBacked : NamedView → Type 0
IsBacked v = CanShow v.kept

-- so does a view that a name in FROM stands for
abbrev pub IsBackedAt : List NamedView → Source → Type 0
IsBackedAt views (Table n) = Unit {0}
IsBackedAt views (View place) = (v : NamedView) → slice_get views place ≡ Some v → IsBacked v

-- the rows have the sizes of the view's columns
abbrev pub HaveColumnsOf : KeptView → List Row → Type 0
HaveColumnsOf v rows = AllByRecursion (HasSizes (column_sizes v.query)) rows

-- why the rows of a view are not shown: memory is wanting, or a total is too large
abbrev pub IsShowFault : KeptView → Fault → Type 0
IsShowFault v f = (f ≡ Memory) ⊎ ((f ≡ SumOutOfRange) × IsNotShown v)

-- the rows are those that a view shows, and of a table none are made
abbrev pub AreShownBy : List NamedView → Source → List Row → Type 0
AreShownBy views (Table n) rows = Unit {0}
AreShownBy views (View place) rows =
    (v : NamedView) × (slice_get views place ≡ Some v) × AreRowsOf v.kept rows × HaveColumnsOf v.kept rows
    × IsShown v.kept

-- the source is a view with a total that is too large to show
abbrev pub IsHidden : List NamedView → Source → Type 0
IsHidden views (Table n) = ⊥
IsHidden views (View place) = (v : NamedView) × (slice_get views place ≡ Some v) × IsNotShown v.kept

-- why a source is not read
abbrev pub IsReadFault : List NamedView → Source → Fault → Type 0
IsReadFault views source f = (f ≡ Memory) ⊎ ((f ≡ SumOutOfRange) × IsHidden views source)

-- why one of several sources is not read
abbrev pub IsGatherFault : List NamedView → List Source → Fault → Type 0
IsGatherFault views sources f = (f ≡ Memory) ⊎ ((f ≡ SumOutOfRange) × Any (IsHidden views) sources)

-- what was gathered where these rows were made for a source
abbrev pub made_for : Source → List Row → Gathered
made_for source rows = record { source = source; shown = rows }

-- what was gathered is of this source
pub record IsGathered (views : List NamedView) (source : Source) (gathered : Gathered) : Type 0 where
  pub same : gathered.source ≡ source
  pub shown : AreShownBy views source gathered.shown

-- something was gathered of each of these sources
abbrev pub AreGathered : List NamedView → List Source → List Gathered → Type 0
AreGathered views sources gathered = Pointwise (IsGathered views) sources gathered

-- ---- What is lent
-- the rows are all of a table's, or those that a view showed
abbrev pub AreRowsThere : List TableOf → Source → List Row → List Row → Type 0
AreRowsThere tables (Table n) shown rows = bag_of rows ≡ rows_in tables n
AreRowsThere tables (View place) shown rows = rows ≡ shown

-- each table of which something was gathered is there
abbrev pub CanLend : List TableOf → List Gathered → Type 0
CanLend tables gathered = (views : List ViewOf) × AllByRecursion (λ g. IsSourceThere tables views g.source) gathered

-- the rows of what was gathered are lent
pub record IsLent (tables : List TableOf) (gathered : Gathered) (lent : StoredSource) : Type 0 where
  pub source : lent.source ≡ gathered.source
  pub rows : AreRowsThere tables gathered.source gathered.shown (all_rows lent.rows)

-- the rows of all that was gathered are lent
abbrev pub AreLent : List TableOf → List Gathered → List StoredSource → Type 0
AreLent tables gathered sources = Pointwise (IsLent tables) gathered sources
