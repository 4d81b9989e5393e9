-- Tables at epochs that can be told, and views that stand for them (docs/ARCHITECTURE.md, Epochs).
use Rattle.std.specs.Prelude.{◌≡◌, ◌+◌, ◌*◌, ◌<◌, ◌≤◌, ◌^◌, ℕ, List, Some, length}
use Rattle.std.specs.List.{AllByRecursion}
use Rattle.cq_deltas_joins.specs.Steps.{AreStored}
use Rattle.cq_model.specs.Sizes.{IsStored}
use Rattle.cq_model_bags.specs.Bag.{SameBag, Weighted, once_each}
use Rattle.cq_model_state.specs.Fitting.{rows_limit}
use Rattle.cq_model_state.specs.State.{ChangeOf, State, tables_at}
use Rattle.cq_model_step_laws.specs.Sound.{IsSound}
use Rattle.cq_sides_weights.specs.Held.{sizes}
use Rattle.cq_values.specs.Value.{Row}
use Rattle.cq_engine_tables.specs.Views.{AreRight, IsRight, NamedView, width_at}
use Rattle.cq_engine_queue.specs.Queued.{Queued}

-- the bag is that of few stored rows with so many columns
pub record AreFew (wide : ℕ) (xs : Weighted) : Type 0 where
  pub rows : List Row
  pub are : SameBag (once_each rows) xs
  pub stored : AllByRecursion IsStored rows
  pub widths : AllByRecursion (λ r. length r ≡ wide) rows
  pub few : length rows ≤ rows_limit

-- few stored rows change
pub record IsSmall (c : ChangeOf) : Type 0 where
  pub stored : AreStored c.rows
  pub few : sizes c.rows ≤ 2 * rows_limit

-- a sound state, in which each table has few stored rows of its columns at each epoch that can be told, and each change
-- is small
pub record IsHistory (s : State) : Type 0 where
  pub sound : IsSound s
  pub held : (epoch n wide : ℕ) → s.passed ≤ epoch → epoch ≤ s.now → width_at s.tables n ≡ Some wide → AreFew wide (tables_at s epoch n)
  pub small : AllByRecursion IsSmall s.queue
  pub range : s.now < 2 ^ 64

-- the queue is that of the state
pub record IsQueueOf (s : State) (q : Queued) : Type 0 where
  pub passed : q.passed ≡ s.passed
  pub changes : q.changes ≡ s.queue

-- a state with this queue, and a view that is right there and is to be taken on to an epoch so far
pub record CanTakeOn (q : Queued) (to : ℕ) (v : NamedView) : Type 0 where
  pub state : State
  pub queue : IsQueueOf state q
  pub history : IsHistory state
  pub right : IsRight state v
  pub there : to ≤ state.now

-- a view that is right in whatever state with this queue stays right there
abbrev pub StaysRight : Queued → NamedView → NamedView → Type 0
StaysRight q old new = (s : State) → IsQueueOf s q → IsHistory s → IsRight s old → IsRight s new

-- a state with this queue, at this epoch, and views that are right there
pub record CanAllTakeOn (q : Queued) (last : ℕ) (views : List NamedView) : Type 0 where
  pub state : State
  pub queue : IsQueueOf state q
  pub history : IsHistory state
  pub right : AreRight state views
  pub now : state.now ≡ last

-- views that are right in whatever state with this queue stay right there
abbrev pub StayRight : Queued → List NamedView → List NamedView → Type 0
StayRight q old new = (s : State) → IsQueueOf s q → IsHistory s → AreRight s old → AreRight s new

-- a view was taken on: it is the view that it was, at an epoch from its own to this one
pub record IsTakenOn (to : ℕ) (old new : NamedView) : Type 0 where
  pub name : new.name ≡ old.name
  pub columns : new.columns ≡ old.columns
  pub query : new.kept.query ≡ old.kept.query
  pub widths : new.kept.widths ≡ old.kept.widths
  pub built : new.kept.state.built ≡ old.kept.state.built
  pub from : old.kept.state.epoch ≤ new.kept.state.epoch
  pub within : new.kept.state.epoch ≤ to
