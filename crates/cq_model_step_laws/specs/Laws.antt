-- What holds of states and of the tables at their epochs. Each statement is the contract of a function in laws.rt.
use Rattle.std.specs.Prelude.{◌≡◌, ◌≢◌, ℕ, ◌+◌, ◌-◌, ◌≤◌, ◌<◌, List, [], ◌∷◌, ◌++◌, Some, Result, slice_get}
use Rattle.cq_values.specs.Value.{Row}
use Rattle.cq_model_bags.specs.Bag.{Weighted, SameBag}
use Rattle.cq_binder_rules.specs.declared.bound.Bound.{Bound}
use Rattle.cq_binder_rules.specs.declared.bound.Bound.TheVariants as commands
use Rattle.cq_model.specs.declared.query.Query.{Query}
use Rattle.cq_values.specs.declared.column.ColumnDef.{ColumnDef}
use Rattle.cq_sql_language.specs.declared.statement.Statement.{Statement}
use Rattle.cq_views_model.specs.Delta.{joined_change}
use Rattle.cq_model.specs.Meaning.{joined_rows}
use Rattle.cq_model.specs.Views.{tables_alone}
use Rattle.cq_model_step.specs.declared.answer.Answer.{Answer}
use Rattle.cq_binder_rules.specs.declared.fault.Fault.{Fault}
use Rattle.cq_binder_rules.specs.Records.{Files}
use Rattle.cq_model_state.specs.State.{IsThere, ChangeOf, State, rows_in, tables_now, change_of, tables_at, first_state}
use Rattle.cq_model_step.specs.Next.{Writes}
use Rattle.cq_model_step.specs.Step.{Accepts, Step}
use Rattle.cq_model_step_laws.specs.Sound.{Fits, IsSound}

-- the table of a number has the change in its bag, and each other one the rows that it had
pub record LeadsOn (old : State) (n : ℕ) (change : Weighted) (new : State) : Type 0 where
  pub changed : SameBag (tables_now new n) (tables_now old n ++ change)
  pub others : (m : ℕ) → m ≢ n → rows_in new.tables m ≡ rows_in old.tables m

-- the change of a write leads its table from the old bag to the new one
abbrev pub WriteLeadsOn : Type 0
WriteLeadsOn = (old new : State) (n : ℕ) (rows : List Row) (w : Writes old n rows new) → IsThere n old.tables → LeadsOn old n w.change new

-- an accepted command changes no table at an epoch so far
abbrev pub EarlierEpochsStay : Type 0
EarlierEpochsStay =
    (old new : State) (command : Bound) (answer : Answer) (epoch n : ℕ) → IsSound old → Fits old command → Accepts old command answer new
    → IsThere n new.tables → new.passed ≤ epoch → epoch ≤ old.now → SameBag (tables_at new epoch n) (tables_at old epoch n)

-- the change of the write that leads from an epoch to the next
abbrev pub IsNext : State → ℕ → ChangeOf → Type 0
IsNext s epoch change = slice_get s.queue (epoch - s.passed) ≡ Some change

-- the next change leads each table from an epoch to the one after it
pub record GoesOneOn (s : State) (epoch : ℕ) : Type 0 where
  pub change : ChangeOf
  pub next : IsNext s epoch change
  pub tables : (n : ℕ) → SameBag (tables_at s (epoch + 1) n) (tables_at s epoch n ++ change_of (change ∷ []) n)

-- from each epoch before the last one change leads on
abbrev pub OneEpochOn : Type 0
OneEpochOn = (s : State) (epoch : ℕ) → IsSound s → s.passed ≤ epoch → epoch < s.now → GoesOneOn s epoch

-- so the joined rows of a view's query have what that change of its tables adds to them
abbrev pub JoinedRowsOneEpochOn : Type 0
JoinedRowsOneEpochOn =
    (s : State) (epoch : ℕ) (change : ChangeOf) (q : Query) → s.passed ≤ epoch → IsNext s epoch change
    → SameBag (joined_rows q (tables_alone (tables_at s (epoch + 1))))
    (joined_rows q (tables_alone (tables_at s epoch)) ++ joined_change q (tables_alone (tables_at s epoch)) (tables_alone (change_of (change ∷ []))))

-- the tables at the last epoch are those at present
abbrev pub PresentIsLastEpoch : Type 0
PresentIsLastEpoch = (s : State) (n : ℕ) → IsSound s → tables_at s s.now n ≡ tables_now s n

-- a table is there, and has no row at any epoch that can be told
pub record IsNewTable (s : State) (n : ℕ) : Type 0 where
  pub there : IsThere n s.tables
  pub empty : (epoch : ℕ) → s.passed ≤ epoch → epoch ≤ s.now → SameBag (tables_at s epoch n) []

-- a new table has no past, and nothing of a dropped one's
abbrev pub NewTableIsEmptyBefore : Type 0
NewTableIsEmptyBefore =
    (old new : State) (name : List ℕ) (columns : List ColumnDef) (sort : List ℕ) (answer : Answer) → IsSound old
    → Accepts old (commands.CreateTable name columns sort) answer new → IsNewTable new old.drawn

-- an accepted command leaves a sound state
abbrev pub CommandsKeepSound : Type 0
CommandsKeepSound = (old new : State) (command : Bound) (answer : Answer) → IsSound old → Fits old command → Accepts old command answer new → IsSound new

-- the first state is sound, and each statement, accepted or refused, leaves a sound one
pub record StatesStaySound : Type 0 where
  pub first : (max_rows : ℕ) → IsSound (first_state max_rows)
  pub step : (files : Files) (old new : State) (statement : Statement) (outcome : Result Answer Fault) → IsSound old → Step files old statement outcome new → IsSound new
