use Rattle.std.proofs.Common.{◌≡◌, ◌≤ℤ◌, ◌∷◌, [], ◌++◌}
use Rattle.cq_model_bags.specs.Bag.{SameBag, once_each}
use Rattle.cq_views_state.proofs.showing.push_times.Given as goal

-- the row so many times behind those that were there
abbrev pub invariant-loop-time : goal.invariant-loop-time
invariant-loop-time l = record {
  bag : SameBag (once_each l.rows.rows) (once_each l.initial.rows.rows ++ (l.row, l._time) ∷ []);
  begun : l.rows.begun ≡ [];
  within : l._time ≤ℤ l.times;
}
