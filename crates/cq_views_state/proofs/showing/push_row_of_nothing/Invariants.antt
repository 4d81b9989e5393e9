use Rattle.std.proofs.Common.{◌≡◌, [], map, take}
use Rattle.cq_model.specs.Group.{aggregate}
use Rattle.cq_views_state.proofs.showing.push_row_of_nothing.Given as goal

-- what the aggregates so far show of no rows
abbrev pub invariant-loop-aggregate : goal.invariant-loop-aggregate
invariant-loop-aggregate l = record {
  rows : l.rows.rows ≡ l.initial.rows.rows;
  begun : l.rows.begun ≡ map (λ a. aggregate a []) (take l.aggregate-index l.aggregates);
}
