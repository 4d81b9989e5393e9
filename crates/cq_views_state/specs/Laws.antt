-- What holds of kept views. Each statement is the contract of a function in laws.rt.
use Rattle.std.specs.Prelude.{◌+◌, ◌-◌, ◌^◌, ◌≤◌, ℕ, min}
use Rattle.std.specs.List.{AllByRecursion}
use Rattle.cq_model_bags.specs.Bag.{SameBag}
use Rattle.cq_deltas_joins.specs.Work.{CountsPairs}
use Rattle.cq_views_model.specs.Delta.{changed, joins_work}
use Rattle.cq_model.specs.Meaning.{Tables, meaning}
use Rattle.cq_model.specs.Views.{sources_of}
use Rattle.cq_views_state.specs.State.{AreAsTold, SameView, StandsFor, WaitsFor}
use Rattle.cq_views_state.specs.Work.{CountsPut, CountsRows, work_of}
use Rattle.cq_views_state.specs.declared.state.Pending.{Pending}
use Rattle.cq_views_state.specs.declared.state.ViewState.{ViewState}

-- what a view stands for are the bags of the tables that its FROM names, however they are listed
abbrev pub StandingDependsOnSources : Type 0
StandingDependsOnSources =
    (v : ViewState) (tables others : Tables) → AllByRecursion (λ s. SameBag (tables s) (others s)) (sources_of v.query)
    → StandsFor v tables → StandsFor v others

-- for changes that are prepared and then put in, the counts rise by at most the work of the query's joins over all rows
abbrev pub CountsWithinWork : Type 0
CountsWithinWork =
    (tables changes : Tables) (old ready new : ViewState) (pending : Pending)
    → StandsFor old tables → AreAsTold old tables changes → SameView old ready → CountsPairs old.chain changes ready.chain → CountsRows old changes ready
    → WaitsFor tables changes ready pending → CountsPut ready pending new
    → work_of new ≤ work_of old + joins_work old.query tables changes

-- and where they change the bag of the query, the counts rise, until they are at their end
abbrev pub RisesWhereChanged : Type 0
RisesWhereChanged =
    (tables changes : Tables) (old ready new : ViewState) (pending : Pending)
    → StandsFor old tables → AreAsTold old tables changes → CountsPairs old.chain changes ready.chain → CountsRows old changes ready → CountsPut ready pending new
    → (SameBag (meaning old.query (changed tables changes)) (meaning old.query tables) → ⊥) → min (work_of old + 1) (2 ^ 128 - 1) ≤ work_of new
