use Rattle.std.proofs.Common.{◌≡◌, [], map, take}
use Rattle.cq_views_model.specs.Kept.{kept_of}
use Rattle.cq_deltas.specs.Kept.{seen}
use Rattle.cq_deltas.proofs.group.Group.empty.Given as goal

-- what is kept of the aggregates so far is that of no rows
abbrev pub invariant-loop-aggregate : goal.invariant-loop-aggregate
invariant-loop-aggregate l = map seen l.kept.items ≡ map (kept_of []) (take l.aggregate-index l.aggregates)
