-- A view as it is kept, the tables that it stands for, and what changes of them do.
use Rattle.std.specs.Prelude.{◌≡◌, ◌<◌, ◌≤◌, ◌^◌, ℕ, List}
use Rattle.cq_deltas_joins.specs.Chains.{spans}
use Rattle.cq_deltas_joins.specs.Work as chains
use Rattle.cq_views_model.specs.Delta.{SameTables, changed}
use Rattle.cq_model.specs.Pushed.{HaveWidths}
use Rattle.cq_views.specs.Cut.{cut_bags, cut_widths, width_at}
use Rattle.cq_views.specs.declared.kept_view.KeptView.{KeptView}
use Rattle.cq_model.specs.Meaning.{Tables}
use Rattle.cq_model.specs.Views.{sources_of}
use Rattle.cq_model.specs.declared.query.Query.{Query}
use Rattle.cq_views_columns.specs.Narrow.{IsNarrowOf}
use Rattle.cq_views_columns.specs.declared.columns.SourceColumns.{SourceColumns}
use Rattle.cq_views_columns.specs.declared.narrow_query.NarrowQuery.{NarrowQuery}
use Rattle.cq_views_model.specs.Query.{CanBeKept}
use Rattle.cq_views_state.specs.State.{AreBags, HoldStored, StayCountable}
use Rattle.cq_views_state.specs.State as inner
use Rattle.cq_views_state.specs.Work.{CountsRows, work_of}
use Rattle.cq_views_state.specs.declared.state.Pending.{Pending}
use Rattle.cq_views_state.specs.declared.state.ViewState.{ViewState}

-- the query over rows with the columns alone that it reads
abbrev pub narrow_query : KeptView → NarrowQuery
narrow_query v = record { query = v.state.query; columns = v.columns }

-- the state is of the query over the columns that it reads, and stands for the tables' rows that are cut to these
pub record StandsFor (v : KeptView) (tables : Tables) : Type 0 where
  pub narrow : IsNarrowOf v.query v.widths (narrow_query v)
  pub widths : v.state.widths ≡ cut_widths v.columns v.state.query
  pub rows : inner.StandsFor v.state (cut_bags v.columns tables)

-- columns of a query, and its state over these at the epoch, which stands for the tables and counted no work
pub record IsOver (q : Query) (widths : List ℕ) (tables : Tables) (now : ℕ) (made : List SourceColumns × ViewState) : Type 0 where
  pub narrow : IsNarrowOf q widths (record { query = made.1.query; columns = made.0 })
  pub cut : made.1.widths ≡ cut_widths made.0 made.1.query
  pub epoch : made.1.epoch ≡ now
  pub built : made.1.built ≡ now
  pub rows : inner.StandsFor made.1 (cut_bags made.0 tables)
  pub uncounted : work_of made.1 ≡ 0

-- the view stands for stored rows, and they and the changes are few enough
pub record CanPrepare (v : KeptView) (changes : Tables) : Type 0 where
  pub can : CanBeKept v.query
  pub tables : Tables
  pub stands : StandsFor v tables
  pub few : spans tables changes (sources_of v.query) < 2 ^ 127
  pub countable : StayCountable (sources_of v.query) tables changes
  pub stored : HoldStored v.query tables × HoldStored v.query changes

-- a view stands for what it stood for
abbrev pub StaysStanding : KeptView → KeptView → Type 0
StaysStanding old new = (tables : Tables) → StandsFor old tables → StandsFor new tables

-- nothing is changed that is seen of a view, and it stands for what it stood for
pub record SameView (old new : KeptView) : Type 0 where
  pub query : new.query ≡ old.query
  pub widths : new.widths ≡ old.widths
  pub columns : new.columns ≡ old.columns
  pub state : inner.SameView old.state new.state
  pub stands : StaysStanding old new

-- changes of these tables wait for the view, cut to the columns that it reads
pub record WaitsFor (tables changes : Tables) (v : KeptView) (pending : Pending) : Type 0 where
  pub cut : Tables
  pub same : SameTables cut (cut_bags v.columns changes)
  pub waits : inner.WaitsFor (cut_bags v.columns tables) cut v.state pending

-- whatever tables the view stood for
abbrev pub IsWaiting : KeptView → Tables → KeptView → Pending → Type 0
IsWaiting old changes new pending = (tables : Tables) → StandsFor old tables → WaitsFor tables changes new pending

-- changes wait as rows that are cut, and the counts rose by at most the pairs that these rows meet, and by one for each row
-- that they add behind the joins; they did not fall
pub record CountsPairs (old : KeptView) (changes : Tables) (new : KeptView) (pending : Pending) : Type 0 where
  pub cut : Tables
  pub same : SameTables cut (cut_bags old.columns changes)
  pub wide : HaveWidths (width_at old.columns) cut
  pub waits : inner.IsWaiting old.state cut new.state pending
  pub counts : chains.CountsPairs old.state.chain cut new.state.chain
  pub rows : CountsRows old.state cut new.state
  pub more : work_of old.state ≤ work_of new.state

-- there is room for what waits, and no number leaves its range
abbrev pub CanCommit : KeptView → Pending → Type 0
CanCommit v pending = inner.CanCommit v.state pending

-- with what waited put in, the view stands for the changed tables
abbrev pub TakesIn : KeptView → Pending → KeptView → Type 0
TakesIn old pending new =
    (tables changes : Tables) → StandsFor old tables → WaitsFor tables changes old pending → AreBags (changed tables changes)
    → StandsFor new (changed tables changes)
