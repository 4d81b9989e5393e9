use Rattle.std.proofs.Common.{◌≡◌, ◌-◌, ◌≤◌, drop}
use Rattle.cq_engine_queue.proofs.queue.drop_front.Given as goal

-- all but those that are left to drop are dropped
abbrev pub invariant-loop-left : goal.invariant-loop-left
invariant-loop-left l = record {
  few : l.left ≤ l.count;
  dropped : l.changes.items ≡ drop (l.count - l.left) l.initial.changes.items;
}

abbrev pub decreases-loop-left : goal.decreases-loop-left
decreases-loop-left l = l.left
