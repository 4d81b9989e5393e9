use Rattle.std.proofs.Common.{◌∙◌, ap, arith, get_or, refl, rules}
use Rattle.cq_values.specs.declared.value.Value.TheVariants.{Null}
use Rattle.cq_hash_groups_sums.specs.Puts.{put_sum}
use Rattle.cq_hash_groups_sums.proofs.Putting.{put_from-step, small_room}
use Rattle.cq_hash_groups_sums.proofs.small_sums.put_each.Goals as goal

pub with_value-requires : goal.with_value-requires
with_value-requires c =
    small_room c.loop-place.invariant c.index-sums-group.result (first_of (omega arith, search rules)) c.requires.there (first_of (omega arith, search rules, grind arith)) c.requires.room

pub loop-place-preserved : goal.loop-place-preserved
loop-place-preserved c =
    let s = c.index-sums-group.result in
    put_from-step c.loop-place.invariant s (first_of (omega arith, search rules)) c.requires.there (get_or c.args.values.now c.loop-place.place Null) c.in-Some.sum c.requires.same refl
    (c.in-Some.ensures.sum ∙ ap (put_sum _) c.lend.ensures) c.in-Some.ensures.within
