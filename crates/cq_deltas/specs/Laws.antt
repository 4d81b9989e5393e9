-- What holds of groups that stand for rows, and of counted values. Each statement is the contract of a function in laws.rt.
use Rattle.std.specs.Prelude.{◌<◌, ◌≤◌, ◌^◌, ◌↔◌, ◌+◌, ℤ, List}
use Rattle.std.specs.List.{AllByRecursion}
use Rattle.cq_values.specs.Value.{Row}
use Rattle.cq_model_bags.specs.Bag.{Weighted}
use Rattle.cq_deltas.specs.Extremes.{IsAdded, with_more}
use Rattle.cq_model.specs.declared.query.Aggregate.{Aggregate}
use Rattle.cq_model.specs.Group.{SumInRange}
use Rattle.cq_views_model.specs.Kept.{Group, GroupStands}
use Rattle.cq_deltas.specs.Additions.{Addition}
use Rattle.cq_deltas.specs.Keyed.{count_moves, all_total_moves}
use Rattle.cq_deltas.specs.Shown.{AllCanBeShown}
use Rattle.cq_model.specs.Width.{number_limit}

-- what rows and a change can move counts and totals together is in range
pub record AreSmall (rows change : List Addition) : Type 0 where
  pub counts : count_moves rows + count_moves change < number_limit
  pub totals : all_total_moves rows + all_total_moves change ≤ 2 ^ 250

-- a group that stands for rows can be shown exactly where their totals can be shown
abbrev pub RangesShow : Type 0
RangesShow =
    (aggregates : List Aggregate) (xs : Weighted) (group : Group) → GroupStands aggregates xs group
    → AllCanBeShown aggregates group.kept ↔ AllByRecursion (λ a. SumInRange a xs) aggregates

-- a row whose weight is added in order is in the bag so many times more
abbrev pub MoreIsAdded : Type 0
MoreIsAdded = (r : Row) (w : ℤ) (xs : Weighted) → IsAdded r w xs (with_more r w xs)
