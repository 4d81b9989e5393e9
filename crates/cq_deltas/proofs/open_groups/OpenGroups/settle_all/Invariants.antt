use Rattle.std.proofs.Common.{◌≡◌, false, take}
use Rattle.std.specs.Map.{keys_of}
use Rattle.cq_values.specs.Value.{Row}
use Rattle.cq_deltas.specs.Keyed.{AreSettled, additions_at, is_met, stored_at}
use Rattle.cq_deltas.proofs.open_groups.OpenGroups.settle_all.Given as goal

-- no group is another, and while none without rows is met, those of the rows so far are settled
abbrev pub invariant-loop-index : goal.invariant-loop-index
invariant-loop-index l = record {
  same : (k : Row) → stored_at l.self k ≡ stored_at l.fn.self k;
  keys : keys_of l.self ≡ keys_of l.fn.self;
  full : l.is_empty ≡ false → AreSettled (is_met (take l.index (additions_at l.fn.self l.change))) l.fn.self l.self;
}
