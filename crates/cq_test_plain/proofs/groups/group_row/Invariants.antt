use Rattle.std.proofs.Common.{◌≡◌, take}
use Rattle.std.specs.List.{AllByRecursion}
use Rattle.cq_model_bags.specs.Bag.{once_each}
use Rattle.cq_model.specs.Group.{group_row, SumInRange}
use Rattle.cq_test_plain.proofs.groups.group_row.Given as goal

-- the aggregates so far stand behind the key, and their totals can be shown
abbrev pub invariant-loop-each : goal.invariant-loop-each
invariant-loop-each l = (l.row ≡ group_row (take l.each-index l.aggregates) l.key (once_each l.rows)) × AllByRecursion (λ a. SumInRange a (once_each l.rows)) (take l.each-index l.aggregates)
