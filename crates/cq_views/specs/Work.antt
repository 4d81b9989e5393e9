-- What a view counts for changes, by the work of its query's joins for them.
use Rattle.std.specs.Prelude.{◌≡◌, ◌+◌, ◌≤◌, ℕ, map}
use Rattle.std.specs.List.{AllByRecursion}
use Rattle.cq_model_bags.specs.Bag.{SameBag}
use Rattle.cq_model.specs.Meaning.{Tables}
use Rattle.cq_model.specs.Pushed.{HaveWidths}
use Rattle.cq_model.specs.Views.{sources_of}
use Rattle.cq_model.specs.declared.query.Source.{Source}
use Rattle.cq_views.specs.State.{StandsFor}
use Rattle.cq_views.specs.declared.kept_view.KeptView.{KeptView}
use Rattle.cq_views_model.specs.Delta.{joins_work}
use Rattle.cq_views_state.specs.Work.{work_of}

-- tables and changes whose rows have as many columns as the view was told
pub record AreAsTold (v : KeptView) (tables changes : Tables) : Type 0 where
  pub width : Source → ℕ
  pub told : map width (sources_of v.query) ≡ v.widths
  pub rows : HaveWidths width tables
  pub more : HaveWidths width changes

-- what is done with changes makes the counts rise by at most the work of the view's joins for them, and never fall; others stand for
-- these where each source of FROM has the same bag
pub record CountsWithin (old : KeptView) (changes : Tables) (new : KeptView) : Type 0 where
  pub more : work_of old.state ≤ work_of new.state
  pub most : (tables others : Tables) → AllByRecursion (λ s. SameBag (changes s) (others s)) (sources_of old.query)
      → StandsFor old tables → AreAsTold old tables others → work_of new.state ≤ work_of old.state + joins_work old.query tables others
