-- What a view shows at its epoch.
use Rattle.std.specs.Prelude.{List}
use Rattle.cq_values.specs.Value.{Row}
use Rattle.cq_model_bags.specs.Bag.{SameBag, once_each}
use Rattle.cq_model.specs.Meaning.{MeaningInRange, meaning}
use Rattle.cq_model_state.specs.State.{State}
use Rattle.cq_views.specs.Shown.{AreRowsOf, CanShow, IsNotShown, IsShown}
use Rattle.cq_engine_tables.specs.Views.{NamedView}
use Rattle.cq_engine_queue.specs.Counts.{bags_at}

-- the view can be shown, and its rows are the bag of its query on the tables as they were at its epoch, where that can be shown
pub record ShowsEpoch (s : State) (v : NamedView) : Type 0 where
  pub can : CanShow v.kept
  pub rows : (rows : List Row) → AreRowsOf v.kept rows → SameBag (once_each rows) (meaning v.kept.query (bags_at s v.kept.state.epoch))
  pub shown : IsShown v.kept → MeaningInRange v.kept.query (bags_at s v.kept.state.epoch)
  pub hidden : IsNotShown v.kept → MeaningInRange v.kept.query (bags_at s v.kept.state.epoch) → ⊥
