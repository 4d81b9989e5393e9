-- The epochs to which views are to be taken on (docs/ARCHITECTURE.md, Epochs).
use Rattle.std.specs.Prelude.{◌≡◌, ◌+◌, ◌==◌, ℕ, if◌then◌else◌, List, min}
use Rattle.std.specs.Global.{Vec}
use Rattle.std.specs.List.{list_any}
use Rattle.cq_model.specs.Views.{is_view, sources_of}
use Rattle.cq_model.specs.declared.query.Query.{Query}
use Rattle.cq_model_state.specs.State.{ViewOf}
use Rattle.cq_model_step.specs.Next.{taken_on}
use Rattle.cq_model_step.specs.Step.{AreBetween}
use Rattle.cq_engine_queue.specs.Counts.{AllMayBegin}
use Rattle.cq_engine_queue.specs.Queued.{Queued}
use Rattle.cq_engine_queue.specs.declared.goal.Goal.{Goal}
use Rattle.cq_engine_queue.specs.declared.goal.Goal.TheVariants.{At, By, Present}
use Rattle.cq_engine_tables.specs.Views.{NamedView, views_of}

-- each view that FROM names is to be at the present, and the others where they are
abbrev pub sources_to : Query → ℕ → ℕ → ViewOf → ℕ
sources_to q now place v = if list_any (is_view place) (sources_of q) then now else v.epoch

-- each view that FROM names is to be at the present, or the one at a place, or that one so many changes further, if as
-- many wait
abbrev pub goal_of : Goal → ℕ → ℕ → ViewOf → ℕ
goal_of (Present query) now place v = sources_to query.now now place v
goal_of (At view) now place v = if view == place then now else v.epoch
goal_of (By view changes) now place v = if view == place then min (v.epoch + changes) now else v.epoch

-- each view is somewhere on its way
abbrev pub AreOnTheWay : Goal → ℕ → Vec NamedView → Vec NamedView → Type 0
AreOnTheWay goal now old new = AreBetween (goal_of goal now) 0 (views_of old.items) (views_of new.items)

-- each view is where it was to go
abbrev pub AreThere : Goal → ℕ → Vec NamedView → Vec NamedView → Type 0
AreThere goal now old new = views_of new.items ≡ taken_on (goal_of goal now) 0 (views_of old.items)

-- each counted for the changes that it took in, or has begun with one before it was there
abbrev pub MayBeginBefore : Goal → ℕ → Queued → List NamedView → List NamedView → Type 0
MayBeginBefore goal now q old new = AllMayBegin (goal_of goal now) q old new
