-- What holds of kept views. Each statement is the contract of a function in laws.rt.
use Rattle.std.specs.Prelude.{◌≡◌, ◌+◌, ◌-◌, ◌^◌, ◌≤◌, min}
use Rattle.std.specs.List.{AllByRecursion}
use Rattle.cq_model_bags.specs.Bag.{SameBag}
use Rattle.cq_views_model.specs.Delta.{changed, joins_work}
use Rattle.cq_views.specs.Shown.{Suits}
use Rattle.cq_views.specs.State.{CountsPairs, SameView, StandsFor}
use Rattle.cq_views.specs.Work.{CountsWithin}
use Rattle.cq_views.specs.declared.kept_view.KeptView.{KeptView}
use Rattle.cq_model.specs.Meaning.{Tables, meaning}
use Rattle.cq_model.specs.Views.{sources_of}
use Rattle.cq_model.specs.declared.query.Query.{Query}
use Rattle.cq_views_columns.specs.Narrow.{HaveColumns}
use Rattle.cq_views_state.specs.Work.{CountsPut, work_of}
use Rattle.cq_views_state.specs.declared.state.Pending.{Pending}

-- what a view stands for are the bags of the tables that its FROM names, however they are listed
abbrev pub StandingDependsOnSources : Type 0
StandingDependsOnSources =
    (v : KeptView) (tables others : Tables) → AllByRecursion (λ s. SameBag (tables s) (others s)) (sources_of v.query)
    → StandsFor v tables → StandsFor v others

-- for changes that are prepared and then put in, the counts rise by at most the work of the view's joins for them
abbrev pub CountsWithinWork : Type 0
CountsWithinWork =
    (changes : Tables) (old ready new : KeptView) (pending : Pending)
    → SameView old ready → CountsPairs old changes ready pending → CountsPut ready.state pending new.state → CountsWithin old changes new

-- and where they change the bag of the view's query, the counts rise, until they are at their end
abbrev pub RisesWhereChanged : Type 0
RisesWhereChanged =
    (tables changes : Tables) (old ready new : KeptView) (pending : Pending)
    → Suits old tables → HaveColumns old.query old.widths (changed tables changes) → CountsPairs old changes ready pending → CountsPut ready.state pending new.state
    → (SameBag (meaning old.query (changed tables changes)) (meaning old.query tables) → ⊥) → min (work_of old.state + 1) (2 ^ 128 - 1) ≤ work_of new.state

-- the work of the joins of a view's query depends on the bags of the tables that FROM names alone
abbrev pub WorkDependsOnSources : Type 0
WorkDependsOnSources =
    (q : Query) (tables others changes more : Tables)
    → AllByRecursion (λ s. SameBag (tables s) (others s)) (sources_of q) → AllByRecursion (λ s. SameBag (changes s) (more s)) (sources_of q)
    → joins_work q tables changes ≡ joins_work q others more
