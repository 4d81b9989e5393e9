use Rattle.std.proofs.Common.{◌≡◌, ◌+◌, drop, length}
use Rattle.cq_hash_groups_sums.specs.Puts.{most_before, put_all}
use Rattle.cq_hash_groups_slots.specs.Puts.{AreCountsWithin, put_null}
use Rattle.cq_hash_groups_slots.proofs.counts.count_nulls.Given as goal

-- what remains, put into the counts so far, makes what is to come; no count is large
abbrev pub invariant-loop-place : goal.invariant-loop-place
invariant-loop-place l = record {
  rest : put_all put_null 0 (drop l.place l.numbers) (drop l.place l.values) l.counts ≡ put_all put_null 0 l.numbers l.values l.fn.counts;
  within : AreCountsWithin (most_before (length l.numbers) + l.place) l.counts;
  same : length l.counts ≡ length l.fn.counts;
}
