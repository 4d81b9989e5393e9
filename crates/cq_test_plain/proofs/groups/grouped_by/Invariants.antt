use Rattle.std.proofs.Common.{◌≡◌, map, take}
use Rattle.std.specs.List.{AllByRecursion}
use Rattle.cq_model_bags.specs.Bag.{once_each}
use Rattle.cq_model.specs.Group.{SumInRange, group_row, rows_of_key}
use Rattle.cq_test_plain.proofs.groups.grouped_by.Given as goal

-- the groups of the keys so far are made, and their totals can be shown
abbrev pub invariant-loop-key : goal.invariant-loop-key
invariant-loop-key l =
    (l.groups.items ≡ map (λ k. group_row l.aggregates k (rows_of_key l.columns k (once_each l.rows))) (take l.key-index l.key-items))
    × AllByRecursion (λ k. AllByRecursion (λ a. SumInRange a (rows_of_key l.columns k (once_each l.rows))) l.aggregates) (take l.key-index l.key-items)
