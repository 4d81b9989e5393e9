use Rattle.std.proofs.Common.{◌≤◌, ◌<◌, length, arith, rules, ◌∙◌}
use Rattle.cq_values.specs.Lent.{owned}
use Rattle.cq_hash_groups_sums.specs.Puts.{most_before}
use Rattle.cq_hash_groups_distinct.proofs.Counted.{sizes-next, sizes-within}
use Rattle.cq_hash_groups_distinct.proofs.counting.count_new.Goals as goal

pub count_value-requires : goal.count_value-requires
count_value-requires c =
    let few : c.loop-key.key ≤ most_before 1 = first_of (omega arith, search (rules, arith)) in
    sizes-within c.args.met.now.keys c.loop-key.key (most_before 1) c.loop-key.counts.items few c.loop-key.invariant.sizes

pub loop-key-preserved : goal.loop-key-preserved
loop-key-preserved c =
    let lt : c.loop-key.key < length c.args.met.now.keys = first_of (omega arith, search (rules, arith)) in
    record {
      sizes = sizes-next c.args.met.now.keys c.loop-key.key c.loop-key.counts.items c.count_value.new.counts.items (owned c.lend.result) (owned c.lend-in-loop-key.result) lt c.lend.ensures c.lend-in-loop-key.ensures
          c.count_value.ensures.same c.loop-key.invariant.sizes c.count_value.ensures.counts;
      same = c.count_value.ensures.same ∙ c.loop-key.invariant.same;
    }
