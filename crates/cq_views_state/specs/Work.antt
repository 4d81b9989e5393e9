-- What a view counts: the entries that the sides of its joins gave and took, and the changed rows that came behind them.
use Rattle.std.specs.Prelude.{◌≡◌, ◌+◌, ◌≤◌, ℕ, length}
use Rattle.cq_model_bags.specs.Bag.{Weighted}
use Rattle.cq_model_bags.specs.Size.{IsClean}
use Rattle.cq_deltas_joins.specs.Chains.{IsChange}
use Rattle.cq_deltas_joins.specs.Work.{CountsEntries, all_ticks}
use Rattle.cq_model.specs.Meaning.{Tables}
use Rattle.cq_sides.specs.Ticks.{counted}
use Rattle.cq_views_state.specs.declared.state.Pending.{Pending}
use Rattle.cq_views_state.specs.declared.state.ViewState.{ViewState}

-- all that a view counted
abbrev pub work_of : ViewState → ℕ
work_of v = all_ticks v.chain.steps.items + v.ticks

-- each of the rows that changes add behind the joins counted one
pub record CountsRows (old : ViewState) (changes : Tables) (new : ViewState) : Type 0 where
  pub rows : Weighted
  pub added : IsChange old.chain changes rows
  pub once : IsClean rows
  pub counts : new.ticks ≡ counted old.ticks (length rows)

-- where changes were put in that waited, the sides counted the entries that they took, and no row was counted behind the joins
pub record CountsPut (ready : ViewState) (pending : Pending) (new : ViewState) : Type 0 where
  pub entries : CountsEntries ready.chain pending.waiting.joins.items new.chain
  pub more : all_ticks ready.chain.steps.items ≤ all_ticks new.chain.steps.items
  pub ticks : new.ticks ≡ ready.ticks
