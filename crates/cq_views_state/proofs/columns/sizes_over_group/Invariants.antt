use Rattle.std.proofs.Common.{◌≡◌, map, take}
use Rattle.cq_model.specs.Width.{extent_limit}
use Rattle.cq_views_state.proofs.columns.sizes_over_group.Given as goal

-- the sizes so far are those of the items so far
abbrev pub invariant-loop-item : goal.invariant-loop-item
invariant-loop-item l = l.sizes.items ≡ map (λ e. (extent_limit e l.group).size) (take l.item-index l.items)
