-- What a view shows: the bag of its query, or that a total is too large to show.
use Rattle.std.specs.Prelude.{List}
use Rattle.cq_values.specs.Value.{Row}
use Rattle.cq_model_bags.specs.Bag.{SameBag, once_each}
use Rattle.cq_views.specs.State.{StandsFor}
use Rattle.cq_views.specs.declared.kept_view.KeptView.{KeptView}
use Rattle.cq_model.specs.Meaning.{MeaningInRange, Tables, meaning}
use Rattle.cq_views_columns.specs.Narrow.{HaveColumns}
use Rattle.cq_views_state.specs.Shown.{CanShowBags}

-- the view stands for bags of stored rows, and a join of them has not more rows than can be counted
abbrev pub CanShow : KeptView → Type 0
CanShow v = CanShowBags v.query (StandsFor v)

-- bags that the view stands for, whose rows have as many columns as it was told
pub record Suits (v : KeptView) (tables : Tables) : Type 0 where
  pub stands : StandsFor v tables
  pub columns : HaveColumns v.query v.widths tables

-- rows are the bag of a view's query on each such tables
abbrev pub AreRowsOf : KeptView → List Row → Type 0
AreRowsOf v rows = (tables : Tables) → Suits v tables → SameBag (once_each rows) (meaning v.query tables)

-- its totals can be shown there
abbrev pub IsShown : KeptView → Type 0
IsShown v = (tables : Tables) → Suits v tables → MeaningInRange v.query tables

-- and one of them cannot
abbrev pub IsNotShown : KeptView → Type 0
IsNotShown v = (tables : Tables) → Suits v tables → MeaningInRange v.query tables → ⊥
