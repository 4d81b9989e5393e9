use Rattle.std.proofs.Common.{◌≡◌, drop, length}
use Rattle.cq_values.specs.declared.value.Value.TheVariants.{Null}
use Rattle.cq_hash_groups_sums.specs.Puts.{put_all}
use Rattle.cq_hash_groups_slots.specs.Puts.{put_best}
use Rattle.cq_hash_groups_slots.proofs.bests.put_each.Given as goal

-- what remains, put into the bests so far, makes what is to come
abbrev pub invariant-loop-place : goal.invariant-loop-place
invariant-loop-place l = record {
  rest : put_all (put_best l.which) Null (drop l.place l.numbers) (drop l.place l.values) l.bests ≡ put_all (put_best l.which) Null l.numbers l.values l.fn.bests;
  same : length l.bests ≡ length l.fn.bests;
}
