use Rattle.std.proofs.Common.{◌≡◌, ◌<◌, ◌∙◌, List, ap, arith, get_or, length, of_z, pos, refl, rules, set, subst, sym, to_z, w64}
use Rattle.std.proofs.lemmas.Bool.{OnTrue_at}
use Rattle.std.proofs.lemmas.Int.{ints, to_z-of_z}
use Rattle.cq_values.specs.declared.value.Value.{Value}
use Rattle.cq_values.specs.declared.value.Value.TheVariants.{Null}
use Rattle.cq_vectors_stored.proofs.ColumnLemmas.{without_nulls}
use Rattle.cq_hash_groups_sums.specs.declared.wide_sums.Sum.{Sum}
use Rattle.cq_hash_groups_sums.specs.NumberColumns.{with_nulls}
use Rattle.cq_hash_groups_sums.specs.Puts.{PutFrom, put_sum}
use Rattle.cq_hash_groups_sums.proofs.Numbered.{read-at, with_nulls-long}
use Rattle.cq_hash_groups_sums.proofs.OneGroup.{at_hand-first, at_hand-next, at_hand-room, at_hand-written}
use Rattle.cq_hash_groups_sums.proofs.at_hand.put_at_hand.Goals as goal

pub returns-then-is_clear-clause-put : goal.returns-then-is_clear-clause-put
returns-then-is_clear-clause-put g c =
    let column = g.C.NumberColumn.numbers c.args.column.now in
    let clear = OnTrue_at c.if-is_clear.true c.is_clear.ensures in
    subst (λ (vs : List Value). PutFrom 0 c.put_known_at_hand.result c.args.numbers.now vs c.args.sums.now c.put_known_at_hand.new.sums)
    (sym (without_nulls column c.args.nulls.now c.requires.flags clear)) c.put_known_at_hand.ensures.put

pub loop-place-init : goal.loop-place-init
loop-place-init g c =
    let values = with_nulls (g.C.NumberColumn.numbers c.args.column.now) c.args.nulls.now in
    let sums = c.args.sums.now in
    (refl, subst (λ (s : Sum). PutFrom 0 0 c.args.numbers.now values sums (set sums c.args.group s)) (sym c.again-sum.ensures) (at_hand-first c.args.numbers.now values sums c.args.group c.index-sums-group.result))

pub with_number_unless-requires : goal.with_number_unless-requires
with_number_unless-requires g c =
    let lt : c.loop-place.place < length c.args.numbers.now = omega (arith, c.loop-place-test.true, c.requires.same, c.requires.flags, c.len-place-end.ensures.len) in
    at_hand-room c.loop-place.invariant.1 c.requires.group lt (first_of (omega arith, search rules, grind arith)) c.requires.room

pub loop-place-preserved : goal.loop-place-preserved
loop-place-preserved g c =
    let column = g.C.NumberColumn.numbers c.args.column.now in
    let nulls = c.args.nulls.now in
    let lt : c.loop-place.place < length column = omega (arith, c.loop-place-test.true, c.requires.flags, c.len-place-end.ensures.len) in
    let read : to_z w64 (of_z w64 c.at-number.result) ≡ get_or column c.loop-place.place (pos 0) = search (arith, ints, to_z-of_z, c.at-number.ensures) in
    let value = read-at column nulls c.requires.flags c.loop-place.place _ _ lt read c.get.ensures in (
      c.loop-place.invariant.0,
      at_hand-next c.loop-place.invariant.1 c.requires.group (get_or (with_nulls column nulls) c.loop-place.place Null) c.in-Some.more c.requires.one (omega (arith, lt, c.requires.same))
          (c.requires.same ∙ with_nulls-long column nulls c.requires.flags) refl (c.in-Some.ensures.sum ∙ ap (put_sum _) value) c.in-Some.ensures.within,
    )

pub returns-in_default-clause-put : goal.returns-in_default-clause-put
returns-in_default-clause-put g c = at_hand-written c.args.group c.loop-place.sum c.loop-place.invariant.1 c.loop-place.sums c.loop-place.place c.loop-place.invariant.0 refl

pub returns-clause-put : goal.returns-clause-put
returns-clause-put g c =
    at_hand-written c.args.group c.loop-place.sum c.loop-place.invariant.1 c.loop-place.sums c.len.result c.loop-place.invariant.0
    (first_of (omega (arith, c.loop-place-test.false, c.loop-place.auto.place-end, c.len-place-end.ensures.len, c.len.ensures.len), search rules, grind arith))
