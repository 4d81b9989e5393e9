-- One step: what a statement may answer in a state, and what state it leaves (ISO 9075-2, 11.3, 14.9, 14.11 and 14.14;
-- docs/LANGUAGE.md, Statements; docs/ARCHITECTURE.md, Epochs).
use Rattle.std.specs.Prelude.{◌≡◌, ℕ, ◌+◌, ◌≤◌, ◌==◌, true, not, List, [], ◌∷◌, ◌++◌, filter, length, Option, Some, None, Result, Ok, Err}
use Rattle.std.specs.List.{remove}
use Rattle.cq_values.specs.Value.{Row}
use Rattle.cq_model_bags.specs.Listing.{IsListing}
use Rattle.cq_binder_rules.specs.declared.bound.Bound.{Bound}
use Rattle.cq_binder_rules.specs.declared.bound.Bound.TheVariants as commands
use Rattle.cq_model.specs.Expr.{Cond}
use Rattle.cq_model.specs.declared.query.Order.{Order}
use Rattle.cq_model.specs.declared.query.Query.{Query}
use Rattle.cq_sql_language.specs.declared.statement.Statement.{Statement}
use Rattle.cq_model.specs.Meaning.{meaning}
use Rattle.cq_model.specs.Views.{with_views, AnswerInRange}
use Rattle.cq_model.specs.Write.{chosen, left_by, updated}
use Rattle.cq_model_step.specs.declared.answer.Answer.{Answer}
use Rattle.cq_model_step.specs.declared.answer.Answer.TheVariants.{Done, Count, Rows}
use Rattle.cq_binder_rules.specs.declared.fault.Fault.{Fault}
use Rattle.cq_binder_rules.specs.declared.fault.Fault.TheVariants as faults
use Rattle.cq_binder_rules.specs.Bound.{bound}
use Rattle.cq_binder_rules.specs.Records.{Files}
use Rattle.cq_binder_rules.specs.Refusal.{reads_source, refusal}
use Rattle.cq_binder_rules.specs.Sources.{AreTold}
use Rattle.cq_model_state.specs.State.{ViewOf, State, rows_in, tables_now, queries_of}
use Rattle.cq_model_step.specs.Next.{with_tables, with_all_views, created, new_view, Writes, reach, at_epoch, refreshed, Trims}

-- a SELECT's answer: the listing of the bag that the query means on the tables at present, if its totals can be shown
pub record Shows (s : State) (header : List (List ℕ)) (q : Query) (order : Order) (answer : Answer) : Type 0 where
  pub rows : List Row
  pub answered : answer ≡ Rows header rows
  pub listed : IsListing order.keys order.limit (meaning q (with_views (tables_now s) (queries_of s))) rows
  pub in_range : AnswerInRange (tables_now s) (queries_of s) q

-- the answer counts the rows of a table that a condition chooses
abbrev pub CountsChosen : State → ℕ → Option Cond → Answer → Type 0
CountsChosen s n c answer = answer ≡ Count (length (chosen c (rows_in s.tables n)))

-- what an accepted command answers, and the state that it leads to while nothing is dropped from the queue
abbrev pub Leads : State → Bound → Answer → State → Type 0
Leads old (commands.CreateTable name columns sort) answer new = (answer ≡ Done) × (new ≡ created name columns sort old)
Leads old (commands.DropTable n) answer new = (answer ≡ Done) × (new ≡ with_tables (filter (λ t. not (t.number == n)) old.tables) old)
Leads old (commands.CreateView name columns q) answer new = (answer ≡ Done) × (new ≡ with_all_views (old.views ++ new_view name columns q old.now ∷ []) old)
Leads old (commands.DropView place) answer new = (answer ≡ Done) × (new ≡ with_all_views (remove old.views place) old)
Leads old (commands.Insert n rows) answer new = (answer ≡ Count (length rows)) × Writes old n (rows_in old.tables n ++ rows) new
Leads old (commands.Delete n c) answer new = CountsChosen old n c answer × Writes old n (left_by c (rows_in old.tables n)) new
Leads old (commands.Update n assignments c) answer new = CountsChosen old n c answer × Writes old n (updated assignments c (rows_in old.tables n)) new
Leads old (commands.Select header q order) answer new = Shows old header q order answer × (new ≡ refreshed (commands.Select header q order) old)
Leads old (commands.Move n rows) answer new = (answer ≡ Done) × (new ≡ old)
Leads old (commands.Merge n) answer new = (answer ≡ Done) × (new ≡ old)
Leads old (commands.Refresh place changes) answer new = (answer ≡ Done) × (new ≡ refreshed (commands.Refresh place changes) old)

-- from old, an accepted command answers this and leaves new
pub record Accepts (old : State) (command : Bound) (answer : Answer) (new : State) : Type 0 where
  pub whole : State
  pub leads : Leads old command answer whole
  pub trims : Trims whole new

-- the views from a place on, old beside new: each new one is the old one at some epoch from its own to the one that it was
-- to reach
abbrev pub AreBetween : (ℕ → ViewOf → ℕ) → ℕ → List ViewOf → List ViewOf → Type 0
AreBetween to place [] [] = Unit {0}
AreBetween to place (v ∷ vs) (w ∷ ws) =
    ((epoch : ℕ) × (v.epoch ≤ epoch) × (epoch ≤ to place v) × (w ≡ at_epoch epoch v)) × AreBetween to (place + 1) vs ws
AreBetween to place vs ws = ⊥

-- a command was left half done: views that it names may have taken some changes in, and nothing else has moved
pub record GivesUp (old : State) (command : Bound) (new : State) : Type 0 where
  pub views : AreBetween (reach old command) 0 old.views new.views
  pub state : new ≡ with_all_views new.views old

-- a query with a total that cannot be shown, its own or of a view that it names
abbrev pub IsTooLarge : State → Bound → Type 0
IsTooLarge s (commands.Select header q order) = AnswerInRange (tables_now s) (queries_of s) q → ⊥
IsTooLarge s command = ⊥

-- why a statement is refused, and what state it leaves. The walk decides; a source may fail, and want of memory may come at
-- any point
pub data Refuses (files : Files) (old : State) (statement : Statement) (f : Fault) (new : State) : Type 0 where
  by_walk : refusal files old statement ≡ Some f → new ≡ old → Refuses files old statement f new
  for_memory : f ≡ faults.Memory → new ≡ old → Refuses files old statement f new
  source_failed : reads_source old statement ≡ true → f ≡ faults.SourceFailed → new ≡ old → Refuses files old statement f new
  memory_on_the_way : (command : Bound) → refusal files old statement ≡ None → bound files old statement ≡ Some command → f ≡ faults.Memory → GivesUp old command new → Refuses files old statement f new
  too_large : (command : Bound) → refusal files old statement ≡ None → bound files old statement ≡ Some command → IsTooLarge old command → f ≡ faults.SumOutOfRange → GivesUp old command new → Refuses files old statement f new

-- a statement that no check of the walk refuses does what its command does
pub record Does (files : Files) (old : State) (statement : Statement) (answer : Answer) (new : State) : Type 0 where
  pub free : refusal files old statement ≡ None
  pub command : Bound
  pub is_bound : bound files old statement ≡ Some command
  pub accepts : Accepts old command answer new

-- from old, the statement may answer this and leave new: views take changes in when they are asked for
abbrev pub Step : Files → State → Statement → Result Answer Fault → State → Type 0
Step files old statement (Ok answer) new = Does files old statement answer new
Step files old statement (Err f) new = Refuses files old statement f new

-- such a step over the files that a source tells, or over any where it tells none
abbrev pub StepFrom : Option Files → State → Statement → Result Answer Fault → State → Type 0
StepFrom told old statement outcome new = (files : Files) × AreTold told files × Step files old statement outcome new
