use Rattle.std.proofs.Common.{◌≡◌, map, take}
use Rattle.cq_model.specs.Sizes.{stored_size}
use Rattle.cq_model.specs.Width.{width}
use Rattle.cq_views_state.proofs.columns.sizes_over_rows.Given as goal

-- the sizes so far are those of the items so far
abbrev pub invariant-loop-item : goal.invariant-loop-item
invariant-loop-item l = l.sizes.items ≡ map (λ e. (width e (λ i. stored_size)).size) (take l.item-index l.items)
