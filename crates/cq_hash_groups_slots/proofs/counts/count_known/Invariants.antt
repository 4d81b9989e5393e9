use Rattle.std.proofs.Common.{◌≡◌, ◌+◌, List, drop, length, map}
use Rattle.cq_model.specs.Condition.{is_null}
use Rattle.cq_values.specs.declared.value.Value.{Value}
use Rattle.cq_hash_groups_sums.specs.Puts.{most_before, put_all}
use Rattle.cq_hash_groups_slots.specs.Puts.{AreCountsWithin, put_count}
use Rattle.cq_hash_groups_slots.proofs.counts.count_known.Given as goal

-- what remains, put into the counts so far, makes what is to come, whichever the values are; no count is large
abbrev pub invariant-loop-place : goal.invariant-loop-place
invariant-loop-place l = record {
  rest : (values : List Value) → l.nulls ≡ map is_null values
      → put_all put_count 0 (drop l.place l.numbers) (drop l.place values) l.counts ≡ put_all put_count 0 l.numbers values l.fn.counts;
  within : AreCountsWithin (most_before (length l.numbers) + l.place) l.counts;
  same : length l.counts ≡ length l.fn.counts;
}
