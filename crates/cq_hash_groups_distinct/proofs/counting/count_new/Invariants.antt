use Rattle.std.proofs.Common.{◌≡◌, take, length}
use Rattle.cq_hash_groups_distinct.specs.Sets.{AreSizes}
use Rattle.cq_hash_groups_distinct.proofs.counting.count_new.Given as goal

-- the counts are those of the keys so far
abbrev pub invariant-loop-key : goal.invariant-loop-key
invariant-loop-key l = record {
  sizes : AreSizes (take l.key l.met.keys) l.counts.items;
  same : length l.counts.items ≡ length l.fn.counts.items;
}
