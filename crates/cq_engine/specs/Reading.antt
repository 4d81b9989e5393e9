-- SELECT from views that are taken on to the present first.
use Rattle.std.specs.Prelude.{◌≡◌, ◌⊎◌, ℕ, if◌then◌else◌, List, Result, Ok, Err}
use Rattle.std.specs.Global.{Vec}
use Rattle.cq_values.specs.Value.{Row}
use Rattle.cq_binder_rules.specs.declared.fault.Fault.{Fault}
use Rattle.cq_binder_rules.specs.declared.fault.Fault.TheVariants.{Memory}
use Rattle.cq_engine_queue.specs.Counts.{AllCount, AllMayBegin}
use Rattle.cq_model.specs.declared.query.Order.{Order}
use Rattle.cq_model.specs.declared.query.Query.{Query}
use Rattle.cq_model_state.specs.Fitting.{AreFitting, AreLimited, rows_limit}
use Rattle.cq_model_state.specs.State.{State, ViewOf}
use Rattle.cq_model_step.specs.Named.{is_named}
use Rattle.cq_model_step.specs.Next.{taken_on}
use Rattle.cq_model_step.specs.Step.{AreBetween}
use Rattle.cq_engine_answers.specs.Reading.{CanRead}
use Rattle.cq_engine_answers.specs.Selects.{Selects}
use Rattle.cq_engine_queue.specs.History.{IsHistory, IsQueueOf}
use Rattle.cq_engine_queue.specs.Queued.{Queued}
use Rattle.cq_engine_tables.specs.HeldTables.{HeldTable, tables_of}
use Rattle.cq_engine_tables.specs.Views.{AreRight, NamedView, views_of}

-- a history of the tables with this queue, up to this epoch, in which the views are right, and a query that can be read there
pub record CanSelect (tables : List HeldTable) (views : List NamedView) (queue : Queued) (now : ℕ) (q : Query) : Type 0 where
  pub state : State
  pub tables_are : state.tables ≡ tables_of tables
  pub queue_is : IsQueueOf state queue
  pub now_is : state.now ≡ now
  pub history : IsHistory state
  pub right : AreRight state views
  pub fitting : AreFitting (tables_of tables)
  pub limited : AreLimited rows_limit (tables_of tables)
  pub can : CanRead (tables_of tables) (views_of views) q

-- each view that a query names is to be at the present, and the others where they are
abbrev pub named_to : List ViewOf → Query → ℕ → ℕ → ViewOf → ℕ
named_to views q now place v = if is_named views q place then now else v.epoch

-- each view that the query names is at the present, and the others are where they were
abbrev pub AreNamedThere : Query → ℕ → Vec NamedView → Vec NamedView → Type 0
AreNamedThere q now old new = views_of new.items ≡ taken_on (named_to (views_of old.items) q now) 0 (views_of old.items)

-- or somewhere on its way there
abbrev pub AreNamedTaken : Query → ℕ → Vec NamedView → Vec NamedView → Type 0
AreNamedTaken q now old new = AreBetween (named_to (views_of old.items) q now) 0 (views_of old.items) (views_of new.items)

-- the answer is that of the query on the tables and the views that they were
abbrev pub SelectsAs : List HeldTable → List NamedView → Query → Order → Result (List Row) Fault → Type 0
SelectsAs tables views q order result = Selects (tables_of tables) (views_of views) q order result

-- the views counted for the changes that they took in, or memory is wanting, and one that the query names may have begun
abbrev pub CountsNamed : Query → ℕ → Queued → Vec NamedView → Vec NamedView → Result (List Row) Fault → Type 0
CountsNamed q now queue old new (Ok rows) = AllCount queue old.items new.items
CountsNamed q now queue old new (Err f) =
    AllCount queue old.items new.items ⊎ ((f ≡ Memory) × AllMayBegin (named_to (views_of old.items) q now) queue old.items new.items)
