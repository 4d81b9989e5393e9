-- A view as it is kept, the tables that it stands for, and what changes of them do.
use Rattle.std.specs.Prelude.{◌≡◌, ◌<◌, ◌≤◌, ◌+◌, ◌*◌, ◌^◌, ℕ, List, [], ◌∷◌, ◌++◌, map}
use Rattle.std.specs.List.{AllByRecursion, AllZip}
use Rattle.cq_model_bags.specs.Bag.{Weighted, SameBag, IsBag}
use Rattle.cq_views_model.specs.Delta.{changed}
use Rattle.cq_model.specs.Pushed.{HaveWidths}
use Rattle.cq_model.specs.Meaning.{Tables, joined_rows}
use Rattle.cq_model.specs.Sizes.{count_size}
use Rattle.cq_model.specs.Views.{sources_of}
use Rattle.cq_model.specs.declared.query.Query.{Query}
use Rattle.cq_model.specs.declared.query.Source.{Source}
use Rattle.cq_sides_weights.specs.Held.{sizes}
use Rattle.cq_deltas_joins.specs.Chains.{IsStill, Stands, nothing, spans}
use Rattle.cq_deltas_joins.specs.WaitingChanges.{WaitFor}
use Rattle.cq_deltas_joins.specs.Steps.{AreStored, CanTake}
use Rattle.cq_views_state.specs.Joins.{IsChainOf}
use Rattle.cq_views_state.specs.Last.{CanPut, IsChangeOf, StandsBehind, seen}
use Rattle.cq_views_model.specs.Query.{CanBeKept, aggregates_of}
use Rattle.cq_views_state.specs.declared.last.Last.{Last as Stored}
use Rattle.cq_views_state.specs.declared.state.Pending.{Pending}
use Rattle.cq_views_state.specs.declared.state.ViewState.{ViewState}

-- it stands for the joined rows of the tables that WHERE keeps
abbrev pub LastStandsFor : Query → Tables → Stored → Type 0
LastStandsFor query tables last = StandsBehind query (joined_rows query tables) last

-- the joins stand for the tables, and the rest for the joined rows that WHERE keeps
pub record StandsFor (v : ViewState) (tables : Tables) : Type 0 where
  pub is_of : IsChainOf v.query v.widths v.chain
  pub sides : Stands tables v.chain
  pub last : LastStandsFor v.query tables v.last

-- the rows of the sources and of their changes have as many columns as the view was told
pub record AreAsTold (v : ViewState) (tables changes : Tables) : Type 0 where
  pub width : Source → ℕ
  pub told : map width (sources_of v.query) ≡ v.widths
  pub rows : HaveWidths width tables
  pub more : HaveWidths width changes

-- no row is there less than never
abbrev pub AreBags : Tables → Type 0
AreBags tables = (source : Source) → IsBag (tables source)

-- the rows of each source of a query are stored
abbrev pub HoldStored : Query → Tables → Type 0
HoldStored query tables = AllByRecursion (λ s. AreStored (tables s)) (sources_of query)

-- the sizes of the sources' rows, multiplied: a join of them has no more rows
abbrev pub crossed : Tables → List Source → ℕ
crossed tables [] = 1
crossed tables (source ∷ sources) = sizes (tables source) * crossed tables sources

-- a join of the sources has no more rows than can be counted
abbrev pub AreCountable : List Source → Tables → Type 0
AreCountable sources tables = crossed tables sources ≤ count_size

-- so it is before changes, and with tables of the same bags as those that they lead to
pub record StayCountable (sources : List Source) (tables changes : Tables) : Type 0 where
  pub before : AreCountable sources tables
  pub behind : Tables
  pub same : AllByRecursion (λ s. SameBag (behind s) (changed tables changes s)) sources
  pub after : AreCountable sources behind

-- a query that is kept, over stored rows, not too many of them
pub record CanStart (query : Query) (tables : Tables) : Type 0 where
  pub can : CanBeKept query
  pub few : spans nothing tables (sources_of query) < 2 ^ 127
  pub countable : AreCountable (sources_of query) tables
  pub stored : HoldStored query tables

-- the view stands for stored rows, and they and the changes are as wide as it was told, and few enough
pub record CanPrepare (v : ViewState) (changes : Tables) : Type 0 where
  pub can : CanBeKept v.query
  pub tables : Tables
  pub stands : StandsFor v tables
  pub wide : AreAsTold v tables changes
  pub few : spans tables changes (sources_of v.query) < 2 ^ 127
  pub countable : StayCountable (sources_of v.query) tables changes
  pub stored : HoldStored v.query tables × HoldStored v.query changes

-- the view one epoch on
abbrev pub further : ViewState → ViewState
further v = record v { epoch = v.epoch + 1 }

-- a view stands for what it stood for
abbrev pub StaysStanding : ViewState → ViewState → Type 0
StaysStanding old new = (tables : Tables) → StandsFor old tables → StandsFor new tables

-- nothing is changed that is seen of a view, and it stands for what it stood for
pub record SameView (old new : ViewState) : Type 0 where
  pub query : new.query ≡ old.query
  pub widths : new.widths ≡ old.widths
  pub epoch : new.epoch ≡ old.epoch
  pub built : new.built ≡ old.built
  pub sides : IsStill old.chain new.chain
  pub last : seen (aggregates_of old.query) new.last ≡ seen (aggregates_of old.query) old.last
  pub stands : StaysStanding old new

-- changes of these tables wait for the view
pub record WaitsFor (tables changes : Tables) (v : ViewState) (pending : Pending) : Type 0 where
  pub rows : Weighted
  pub given : SameBag (joined_rows v.query (changed tables changes)) (joined_rows v.query tables ++ rows)
  pub last : IsChangeOf v.query rows v.last pending.change
  pub sides : WaitFor tables changes v.chain pending.waiting.joins.items

-- whatever tables the view stood for, as wide as it was told
abbrev pub IsWaiting : ViewState → Tables → ViewState → Pending → Type 0
IsWaiting old changes new pending =
    (tables : Tables) → StandsFor old tables → AreAsTold old tables changes → WaitsFor tables changes new pending

-- there is room for what waits, and no number leaves its range
pub record CanCommit (v : ViewState) (pending : Pending) : Type 0 where
  pub sides : AllZip CanTake v.chain.steps.items pending.waiting.joins.items
  pub last : CanPut v.last pending.change

-- with what waited put in, the view stands for the changed tables
abbrev pub TakesIn : ViewState → Pending → ViewState → Type 0
TakesIn old pending new =
    (tables changes : Tables) → StandsFor old tables → WaitsFor tables changes old pending → AreBags (changed tables changes)
    → StandsFor new (changed tables changes)
