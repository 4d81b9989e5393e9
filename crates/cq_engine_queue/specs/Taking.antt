-- A view that takes a change in.
use Rattle.std.specs.Prelude.{◌≡◌, ◌+◌, ◌*◌, ◌≤◌, ◌<◌, ◌^◌, true}
use Rattle.std.specs.List.{AllByRecursion}
use Rattle.cq_deltas_joins.specs.Steps.{AreStored}
use Rattle.cq_model_bags.specs.Bag.{SameBag}
use Rattle.cq_model.specs.Views.{sources_of}
use Rattle.cq_model.specs.Meaning.{Tables}
use Rattle.cq_model.specs.declared.query.Source.{Source}
use Rattle.cq_model.specs.declared.query.Source.TheVariants.{Table}
use Rattle.cq_model_state.specs.Fitting.{rows_limit}
use Rattle.cq_model_state.specs.State.{ChangeOf}
use Rattle.cq_sides_weights.specs.Held.{sizes}
use Rattle.cq_views.specs.Filling.{only}
use Rattle.cq_views.specs.Shown.{Suits}
use Rattle.cq_views.specs.State.{StandsFor}
use Rattle.cq_views.specs.Work.{AreAsTold}
use Rattle.cq_views_columns.specs.Narrow.{HaveColumns}
use Rattle.cq_views_model.specs.Delta.{changed, joins_work}
use Rattle.cq_views_model.specs.Query.{reads}
use Rattle.cq_views_state.specs.State.{AreBags}
use Rattle.cq_views_state.specs.Work.{work_of}
use Rattle.cq_engine_tables.specs.Taking.{IsLed}
use Rattle.cq_engine_tables.specs.Views.{Fits, NamedView}
use Rattle.cq_engine_queue.specs.Counts.{CountsFor}

-- the changes of all tables, where one was written
abbrev pub changes_by : ChangeOf → Tables
changes_by c = only (Table c.table) c.rows

-- tables of stored rows, few enough in each
pub record AreHeld (tables : Tables) : Type 0 where
  pub stored : (source : Source) → AreStored (tables source)
  pub few : (source : Source) → sizes (tables source) ≤ rows_limit
  pub bags : AreBags tables

-- the view can be kept, and stands for tables that are held before the change and behind it; few stored rows change
pub record CanTakeIn (v : NamedView) (c : ChangeOf) : Type 0 where
  pub fits : Fits v.kept.query
  pub tables : Tables
  pub stands : StandsFor v.kept tables
  pub held : AreHeld tables
  pub stored : AreStored c.rows
  pub few : sizes c.rows ≤ 2 * rows_limit
  pub behind : Tables
  pub same : AllByRecursion (λ s. SameBag (behind s) (changed tables (changes_by c) s)) (sources_of v.kept.query)
  pub few_behind : (source : Source) → sizes (behind source) ≤ rows_limit
  pub epoch : v.kept.state.epoch + 1 < 2 ^ 64

-- the changed tables are bags, if the view reads the one that changes
abbrev pub AreBagsFor : NamedView → Tables → ChangeOf → Type 0
AreBagsFor v tables c = reads c.table v.kept.query ≡ true → AreBags (changed tables (changes_by c))

-- a view stands for tables, and these are changes of them as a write's, all as wide as the view was told
pub record CanCount (c : ChangeOf) (v : NamedView) (tables changes : Tables) : Type 0 where
  pub suits : Suits v.kept tables
  pub behind : HaveColumns v.kept.query v.kept.widths (changed tables changes)
  pub told : AreAsTold v.kept tables changes
  pub same : AllByRecursion (λ s. SameBag (changes_by c s) (changes s)) (sources_of v.kept.query)

-- a view counted no less, and no more than the work of its joins for a change
pub record StaysWithin (c : ChangeOf) (old new : NamedView) : Type 0 where
  pub more : work_of old.kept.state ≤ work_of new.kept.state
  pub most : (tables changes : Tables) → CanCount c old tables changes
      → work_of new.kept.state ≤ work_of old.kept.state + joins_work old.kept.query tables changes

-- it is one epoch further, and whatever tables it stood for, it stands for the changed ones, and counted for the changes
pub record TakesChange (c : ChangeOf) (old new : NamedView) : Type 0 where
  pub led : IsLed old new
  pub stands : (tables : Tables) → StandsFor old.kept tables → AreBagsFor old tables c → StandsFor new.kept (changed tables (changes_by c))
  pub counts : (tables changes : Tables) → CanCount c old tables changes
      → CountsFor old.kept.query tables changes (work_of old.kept.state) (work_of new.kept.state)
