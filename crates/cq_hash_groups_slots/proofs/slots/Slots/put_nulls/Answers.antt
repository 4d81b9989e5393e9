use Rattle.std.proofs.Common.{◌≡◌, ◌+◌, length, rules, arith, sym, subst}
use Rattle.cq_hash_groups_sums.specs.Puts.{put_all}
use Rattle.cq_hash_groups_slots.specs.Puts.{AreCountsWithin, put_null}
use Rattle.cq_hash_groups_slots.specs.Slots.{AreWithin}
use Rattle.cq_hash_groups_slots.proofs.Putting.{nulls-put}
use Rattle.cq_hash_groups_slots.proofs.slots.Slots.put_nulls.Goals as goal

pub returns-in-Counts-clause-within : goal.returns-in-Counts-clause-within
returns-in-Counts-clause-within c = λ m all.
    let before : AreCountsWithin m c.in-Counts.counts = subst (AreWithin m) c.in-Counts.is all in
    let put : c.put_nulls.new.self ≡ put_all put_null 0 c.args.numbers.now c.args.values.now c.in-Counts.counts = first_of (search rules, grind arith) in
    subst (AreCountsWithin (m + length c.args.numbers.now)) (sym put) (nulls-put m c.args.numbers.now c.args.values.now c.in-Counts.counts before)
