use Rattle.std.proofs.Common.{◌≡◌, ◌∙◌, ℕ, ap, arith, get_or, length, refl, rules, subst}
use Rattle.cq_values.specs.declared.value.Value.TheVariants.{Null}
use Rattle.cq_hash_groups_sums.specs.Puts.{PutFrom, put_sum}
use Rattle.cq_hash_groups_sums.proofs.Putting.{put_from-step, wide_room}
use Rattle.cq_hash_groups_sums.proofs.wide_sums.put_each.Goals as goal

pub put-requires : goal.put-requires
put-requires c =
    wide_room c.loop-place.invariant c.index-sums-numbers.result (first_of (omega arith, search rules)) c.requires.there (first_of (omega arith, search rules, grind arith)) c.requires.room

pub loop-place-preserved : goal.loop-place-preserved
loop-place-preserved c =
    put_from-step c.loop-place.invariant c.index-sums-numbers.result (first_of (omega arith, search rules)) c.requires.there (get_or c.args.values.now c.loop-place.place Null) c.put.new.self c.requires.same refl (c.put.ensures.sum ∙ ap (put_sum _) c.lend.ensures) c.put.ensures.within

pub returns : goal.returns
returns c =
    let numbers = c.args.numbers.now in
    let done : c.loop-place.place ≡ length numbers = first_of (omega arith, search rules, grind arith) in
    subst (λ (place : ℕ). PutFrom c.args.start place numbers c.args.values.now c.args.sums.now c.loop-place.sums) done c.loop-place.invariant
