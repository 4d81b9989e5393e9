use Rattle.std.proofs.Common.{◌≡◌, ◌<◌, ◌∙◌, ap, arith, get_or, length, map, of_z, pos, refl, rules, set, subst, sym, to_z, w64}
use Rattle.std.proofs.lemmas.Int.{ints, to_z-of_z}
use Rattle.std.proofs.lemmas.List.{get_or-map, length-map}
use Rattle.cq_values.specs.declared.value.Value.TheVariants.{Null, Number}
use Rattle.cq_hash_groups_sums.specs.declared.wide_sums.Sum.{Sum}
use Rattle.cq_hash_groups_sums.specs.Puts.{PutFrom, put_sum}
use Rattle.cq_hash_groups_sums.proofs.OneGroup.{at_hand-first, at_hand-next, at_hand-room, at_hand-written}
use Rattle.cq_hash_groups_sums.proofs.at_hand.put_each_at_hand.Goals as goal

pub loop-place-init : goal.loop-place-init
loop-place-init g c =
    let values = map Number (g.C.NumberColumn.numbers c.args.column.now) in
    let sums = c.args.sums.now in
    (refl, subst (λ (s : Sum). PutFrom 0 0 c.args.numbers.now values sums (set sums c.args.group s)) (sym c.again-sum.ensures) (at_hand-first c.args.numbers.now values sums c.args.group c.index-sums-group.result))

pub with_number-requires : goal.with_number-requires
with_number-requires g c =
    at_hand-room c.loop-place.invariant.1 c.requires.group (first_of (omega arith, search rules)) (first_of (omega arith, search rules, grind arith)) c.requires.room

pub loop-place-preserved : goal.loop-place-preserved
loop-place-preserved g c =
    let column = g.C.NumberColumn.numbers c.args.column.now in
    let place = c.loop-place.place in
    let lt : place < length c.args.numbers.now = first_of (omega arith, search rules) in
    let read : to_z w64 (of_z w64 c.at.result) ≡ get_or column place (pos 0) = search (arith, ints, to_z-of_z, c.at.ensures) in (
      c.loop-place.invariant.0,
      at_hand-next c.loop-place.invariant.1 c.requires.group (get_or (map Number column) place Null) c.in-Some.more c.requires.one lt (c.requires.same ∙ sym (length-map column Number)) refl
          (c.in-Some.ensures.sum ∙ ap (put_sum _) (ap Number read ∙ sym (get_or-map Number column place (pos 0) Null (omega (arith, lt, c.requires.same))))) c.in-Some.ensures.within,
    )

pub returns-in_default-clause-put : goal.returns-in_default-clause-put
returns-in_default-clause-put g c = at_hand-written c.args.group c.loop-place.sum c.loop-place.invariant.1 c.loop-place.sums c.loop-place.place c.loop-place.invariant.0 refl

pub returns-clause-put : goal.returns-clause-put
returns-clause-put g c =
    at_hand-written c.args.group c.loop-place.sum c.loop-place.invariant.1 c.loop-place.sums (length c.args.numbers.now) c.loop-place.invariant.0 (first_of (omega (arith, c.loop-place-test.false, c.loop-place.auto.place-end), search rules, grind arith))
