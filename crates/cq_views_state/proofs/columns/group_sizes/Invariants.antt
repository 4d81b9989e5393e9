use Rattle.std.proofs.Common.{◌≡◌, ◌++◌, map, take}
use Rattle.cq_model.specs.Sizes.{shown_size, stored_size}
use Rattle.cq_views_model.specs.Query.{key_columns}
use Rattle.cq_views_state.proofs.columns.group_sizes.Given as goal

-- the sizes so far are those of the keys and of the aggregates so far
abbrev pub invariant-loop-aggregate : goal.invariant-loop-aggregate
invariant-loop-aggregate l = l.sizes.items ≡ map (λ k. stored_size) (key_columns l.query) ++ map shown_size (take l.aggregate-index l.aggregate-items)
