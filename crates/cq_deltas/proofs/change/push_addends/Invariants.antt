use Rattle.std.specs.List.{AllByRecursion}
use Rattle.std.proofs.Common.{◌≡◌, ◌++◌, take}
use Rattle.cq_deltas.specs.Additions.{IsSmall, addends_of}
use Rattle.cq_deltas.proofs.change.push_addends.Given as goal

-- what the row adds to the aggregates so far stands behind the others, each of it small
abbrev pub invariant-loop-aggregate : goal.invariant-loop-aggregate
invariant-loop-aggregate l = record {
  values : l.addends.items ≡ l.fn.addends.items ++ addends_of l.row (take l.aggregate-index l.aggregates);
  small : AllByRecursion (IsSmall l.row) (take l.aggregate-index l.aggregates);
}
