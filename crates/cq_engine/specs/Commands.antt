-- What each command does with tables and views that it was bound to, or else is refused.
use Rattle.std.specs.Prelude.{◌≡◌, ◌⊎◌, ◌<◌, ℕ, false, List, length, Option, None, Some, Result, Ok, Err}
use Rattle.std.specs.List.{AllByRecursion}
use Rattle.cq_values.specs.declared.column.ColumnDef.{ColumnDef}
use Rattle.cq_binder_rules.specs.declared.bound.Bound.{Bound}
use Rattle.cq_binder_rules.specs.declared.bound.Bound.TheVariants as commands
use Rattle.cq_model.specs.declared.query.Query.{Query}
use Rattle.cq_model_step.specs.declared.answer.Answer.{Answer}
use Rattle.cq_model_step.specs.declared.answer.Answer.TheVariants.{Done, Rows}
use Rattle.cq_binder_rules.specs.declared.fault.Fault.{Fault}
use Rattle.cq_binder_rules.specs.declared.fault.Fault.TheVariants.{Memory, SumOutOfRange, UnknownTable}
use Rattle.cq_binder_rules.specs.Checks.{MayRefuse}
use Rattle.cq_binder_rules.specs.Records.{Files}
use Rattle.cq_binder_rules.specs.Refusal.{is_used, reads_source}
use Rattle.cq_model_state.specs.Fitting.{AreFitting, AreLimited, FitsColumns}
use Rattle.cq_model_state.specs.State.{IsThere, TableOf, ViewOf, State, columns_in, rows_in, view_place}
use Rattle.cq_model_step.specs.Step.{Accepts, GivesUp, IsTooLarge, StepFrom}
use Rattle.cq_model.specs.Views.{sources_of}
use Rattle.cq_model.specs.Width.{IsNarrowIn}
use Rattle.cq_engine_queue.specs.History.{IsHistory}
use Rattle.cq_engine_queue.specs.Queued.{Queued}
use Rattle.cq_engine_writes.specs.Updates.{CanUpdateIn, value_fault_in}
use Rattle.cq_engine_tables.specs.HeldTables.{HeldTable, tables_of}
use Rattle.cq_engine_tables.specs.Views.{AreRight, Fits, NamedView, views_of}
use Rattle.cq_engine_answers.specs.Reading.{CanRead, IsSourceThere}
use Rattle.cq_engine_writes.specs.Writing.{room_for}
use Rattle.cq_sql_language.specs.declared.statement.Statement.{Statement}
use Rattle.cq_binder_rules.specs.Sources.{reads_behind}
use Rattle.cq_engine.specs.declared.limits.Limits.{Limits}

-- the state that an engine with this queue stands for
abbrev pub state_of : List TableOf → List ViewOf → ℕ → ℕ → Queued → ℕ → State
state_of tables views now drawn queue max_rows =
    record { tables = tables; views = views; now = now; drawn = drawn; passed = queue.passed; queue = queue.changes; max_rows = max_rows }

-- rows that fit and are not too many, a history of them, and views that are right in it
pub record IsInOrder (s : State) (stored : List NamedView) : Type 0 where
  pub history : IsHistory s
  pub fitting : AreFitting s.tables
  pub limited : AreLimited s.max_rows s.tables
  pub right : AreRight s stored

-- so it is with the tables as they are held, where as many rows are allowed as these limits say
abbrev pub StandInOrder : ℕ → ℕ → Limits → Queued → List HeldTable → List NamedView → Type 0
StandInOrder now drawn limits queue tables views =
    IsInOrder (state_of (tables_of tables) (views_of views) now drawn queue limits.max_rows) views

-- ---- Commands that were bound
-- a query that a view with these columns can be built and kept for
pub record CanBuild (tables : List TableOf) (views : List ViewOf) (columns : List ColumnDef) (q : Query) : Type 0 where
  pub shown : length columns ≡ length q.items
  pub fits : Fits q
  pub there : AllByRecursion (IsSourceThere tables views) (sources_of q)

-- what is known of a command that was bound to these tables and views
abbrev pub CanCarryOut : List TableOf → List ViewOf → Bound → Type 0
CanCarryOut tables views (commands.CreateTable name columns sort) = Unit {0}
CanCarryOut tables views (commands.DropTable n) = IsThere n tables × (is_used n views ≡ false)
CanCarryOut tables views (commands.CreateView name columns q) = CanBuild tables views columns q
CanCarryOut tables views (commands.DropView place) = place < length views
CanCarryOut tables views (commands.Insert n rows) = IsThere n tables × AllByRecursion (FitsColumns (columns_in tables n)) rows
CanCarryOut tables views (commands.Delete n c) = IsThere n tables × AllByRecursion (IsNarrowIn c) (rows_in tables n)
CanCarryOut tables views (commands.Update n assignments c) = IsThere n tables × CanUpdateIn tables n assignments c
CanCarryOut tables views (commands.Select header q order) = CanRead tables views q
CanCarryOut tables views (commands.Move n rows) = IsThere n tables
CanCarryOut tables views (commands.Merge n) = IsThere n tables
CanCarryOut tables views (commands.Refresh place changes) = place < length views

-- ---- Commands that are carried out
-- INSERT asks for room, UPDATE for values that may be stored, and no other command for anything
abbrev pub room : State → Bound → Option Fault
room s (commands.Insert n rows) = room_for s.max_rows s.tables n rows
room s (commands.Update n assignments c) = value_fault_in s.tables n assignments c
room s command = None

-- why a command is not carried out: there is no room, or a value may not be stored, and nothing has changed; or else memory is
-- wanting, or a total cannot be shown, and views that it names may have taken some changes in
abbrev pub IsRefused : State → Bound → Fault → State → Type 0
IsRefused s command f new =
    (MayRefuse (room s command) f × (new ≡ s))
    ⊎ ((room s command ≡ None) × ((f ≡ Memory) ⊎ ((f ≡ SumOutOfRange) × IsTooLarge s command)) × GivesUp s command new)

-- from old, the command may answer this and leave new
abbrev pub CarriesOut : State → Bound → Result Answer Fault → State → Type 0
CarriesOut old command (Ok answer) new = (room old command ≡ None) × Accepts old command answer new
CarriesOut old command (Err f) new = IsRefused old command f new

-- a command that answers rows may as well have been refused for memory
abbrev pub MayGiveUp : State → Bound → Result Answer Fault → State → Type 0
MayGiveUp old command (Ok (Rows header rows)) new = IsRefused old command Memory new
MayGiveUp old command outcome new = Unit {0}

-- so it is with a statement, whose files a source tells
abbrev pub MayBeRefused : Option Files → State → Statement → Result Answer Fault → State → Type 0
MayBeRefused told old statement (Ok (Rows header rows)) new = StepFrom told old statement (Err Memory) new
MayBeRefused told old statement outcome new = Unit {0}

-- a view is not taken on: no view has the name, and nothing has changed, or memory is wanting, and it may have taken some
-- changes in
abbrev pub IsNotRefreshed : State → List ℕ → ℕ → Fault → State → Type 0
IsNotRefreshed old name changes f new =
    ((view_place name old.views ≡ None) × (f ≡ UnknownTable) × (new ≡ old))
    ⊎ ((place : ℕ) × (view_place name old.views ≡ Some place) × (f ≡ Memory) × GivesUp old (commands.Refresh place changes) new)

-- the view of a name is taken on by so many changes, or that is refused
abbrev pub Refreshes : State → List ℕ → ℕ → Result (Unit {0}) Fault → State → Type 0
Refreshes old name changes (Ok done) new =
    (place : ℕ) × (view_place name old.views ≡ Some place) × Accepts old (commands.Refresh place changes) Done new
Refreshes old name changes (Err f) new = IsNotRefreshed old name changes f new

-- how often sources were read once a statement was carried out
abbrev pub reads_after : State → Statement → ℕ → ℕ
reads_after s statement reads = reads_behind (reads_source s statement) reads
