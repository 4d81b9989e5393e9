-- What an engine holds: the state that statements move, and beside it what is stored of its views and its tables.
use Rattle.std.specs.Prelude.{◌≡◌, ◌⊎◌, ℕ, List, [], ◌∷◌, ◌++◌, Option, option_map, Some, Result, Ok, Err}
use Rattle.std.specs.List.{remove}
use Rattle.cq_binder_rules.specs.Bound.{bound}
use Rattle.cq_binder_rules.specs.Records.{Files}
use Rattle.cq_binder_rules.specs.Sources.{AreTold}
use Rattle.cq_binder_rules.specs.declared.bound.Bound.{Bound}
use Rattle.cq_binder_rules.specs.declared.bound.Bound.TheVariants as commands
use Rattle.cq_binder_rules.specs.declared.fault.Fault.{Fault}
use Rattle.cq_model_step.specs.declared.answer.Answer.{Answer}
use Rattle.cq_model_step.specs.declared.answer.Answer.TheVariants.{Count}
use Rattle.cq_model_state.specs.State.{State, table_named, view_place}
use Rattle.cq_sql_language.specs.declared.statement.Statement.{Statement}
use Rattle.cq_engine_tables.specs.HeldTables.{ChangeAt, HeldTable, ExchangeBy, GrowBy, LengthsStay, MarkIn, MergeTo, MoveBy, StoreNothing, lengths_in}
use Rattle.cq_engine_tables.specs.Views.{NamedView}
use Rattle.cq_engine_queue.specs.Counts.{HaveCounted, MayBegin}
use Rattle.cq_model_step.specs.Next.{reach}
use Rattle.cq_binder_rules.specs.declared.fault.Fault.TheVariants.{Memory}
use Rattle.cq_views_state.specs.Work.{work_of}
use Rattle.cq_engine.specs.Commands.{CanCarryOut, CarriesOut}

-- the state, what is stored of its views, and its tables as they are held, each in their order
pub record Held : Type 0 where
  pub state : State
  pub stored : List NamedView
  pub tables : List HeldTable

-- the command was bound to the tables and views that an engine holds
abbrev pub CanDo : Held → Bound → Type 0
CanDo held command = CanCarryOut held.state.tables held.state.views command

-- from what it held, the command may answer this and leave new
abbrev pub Does : Held → Bound → Result Answer Fault → Held → Type 0
Does old command result new = CarriesOut old.state command result new.state

-- ---- Lengths of what tables store
-- those of the table of a name, if there is one: rows of its write store, and rows of its segments with a mark
abbrev pub lengths_named : List ℕ → Held → Option (ℕ × ℕ)
lengths_named name held =
    option_map (λ t. ((lengths_in held.tables t.number).write_len, (lengths_in held.tables t.number).marked_len)) (table_named name held.state.tables)

-- how many rows an answer counts
abbrev pub count_of : Answer → ℕ
count_of (Count n) = n
count_of answer = 0

-- what an accepted command that answers this does to the lengths of tables. A new one stores nothing, and none does
-- whose number is gone
abbrev pub Stores : Held → Bound → Answer → Held → Type 0
Stores old (commands.CreateTable name columns sort) answer new = ChangeAt old.state.drawn StoreNothing old.tables new.tables
Stores old (commands.DropTable n) answer new = ChangeAt n StoreNothing old.tables new.tables
Stores old (commands.Insert n rows) answer new = ChangeAt n (GrowBy (count_of answer)) old.tables new.tables
Stores old (commands.Delete n c) answer new = ChangeAt n MarkIn old.tables new.tables
Stores old (commands.Update n assignments c) answer new = ChangeAt n (ExchangeBy (count_of answer)) old.tables new.tables
Stores old (commands.Move n rows) answer new = ChangeAt n (MoveBy rows) old.tables new.tables
Stores old (commands.Merge n) answer new = ChangeAt n MergeTo old.tables new.tables
Stores old command answer new = LengthsStay old.tables new.tables

-- a refused one leaves them
abbrev pub StoresBy : Held → Bound → Result Answer Fault → Held → Type 0
StoresBy old command (Ok answer) new = Stores old command answer new
StoresBy old command (Err f) new = LengthsStay old.tables new.tables

-- so it is with a statement, and the command that it is bound to over the files that a source tells, or over any
abbrev pub StoresFrom : Option Files → Held → Statement → Result Answer Fault → Held → Type 0
StoresFrom told old statement (Ok answer) new =
    (files : Files) × AreTold told files × (command : Bound) × (bound files old.state statement ≡ Some command) × Stores old command answer new
StoresFrom told old statement (Err f) new = LengthsStay old.tables new.tables

-- ---- What views counted
-- what an accepted command makes views count: one that is new nothing yet, and the others for the changes that they took in
abbrev pub Counts : Held → Bound → Held → Type 0
Counts old (commands.CreateView name columns q) new =
    (view : NamedView) × (new.stored ≡ old.stored ++ view ∷ []) × (work_of view.kept.state ≡ 0)
Counts old (commands.DropView place) new = new.stored ≡ remove old.stored place
Counts old command new = HaveCounted old.state old.stored new.stored

-- memory is wanting, and a view that the command takes on may have begun with a change
abbrev pub CountsLess : Held → Bound → Fault → Held → Type 0
CountsLess old command f new = (f ≡ Memory) × MayBegin (reach old.state command) old.state 0 old.stored new.stored

-- a refused one makes them count for what they took in, or memory is wanting
abbrev pub CountsBy : Held → Bound → Result Answer Fault → Held → Type 0
CountsBy old command (Ok answer) new = Counts old command new
CountsBy old command (Err f) new = HaveCounted old.state old.stored new.stored ⊎ CountsLess old command f new

-- the statement is bound to this command over the files that a source tells, or over any
abbrev pub IsBoundTo : Option Files → Held → Statement → Bound → Type 0
IsBoundTo told old statement command = (files : Files) × AreTold told files × (bound files old.state statement ≡ Some command)

-- so it is with a statement
abbrev pub CountsFrom : Option Files → Held → Statement → Result Answer Fault → Held → Type 0
CountsFrom told old statement (Ok answer) new = (command : Bound) × IsBoundTo told old statement command × Counts old command new
CountsFrom told old statement (Err f) new =
    HaveCounted old.state old.stored new.stored ⊎ ((command : Bound) × IsBoundTo told old statement command × CountsLess old command f new)

-- and with a view that is taken on under its name
abbrev pub ViewsCount : Held → List ℕ → ℕ → Result (Unit {0}) Fault → Held → Type 0
ViewsCount old name changes (Ok done) new = HaveCounted old.state old.stored new.stored
ViewsCount old name changes (Err f) new =
    HaveCounted old.state old.stored new.stored
    ⊎ ((place : ℕ) × (view_place name old.state.views ≡ Some place) × CountsLess old (commands.Refresh place changes) f new)
