use Rattle.std.proofs.Common.{◌≡◌, ◌≤◌, ◌-◌, length, take}
use Rattle.cq_operators_listing.specs.Stored.{CanList}
use Rattle.cq_operators_joins.proofs.distinct.list_keys.Given as goal

-- the keys so far can be listed
abbrev pub invariant-loop-start : goal.invariant-loop-start
invariant-loop-start l = record {
  within : l.start ≤ length l.keys.keys;
  keys : l.list.keys ≡ l.order.keys;
  limit : l.list.limit ≡ l.order.limit;
  so_far : CanList l.list (take l.start l.keys.keys);
}

abbrev pub decreases-loop-start : goal.decreases-loop-start
decreases-loop-start l = l.count - l.start
