use Rattle.std.proofs.Common.{◌≡◌, ◌<◌, ◌∙◌, List, ap, arith, get_or, length, of_z, pos, refl, rules, subst, sym, to_z, w64}
use Rattle.std.proofs.lemmas.Bool.{OnTrue_at}
use Rattle.std.proofs.lemmas.Int.{ints, to_z-of_z}
use Rattle.cq_values.specs.declared.value.Value.{Value}
use Rattle.cq_values.specs.declared.value.Value.TheVariants.{Null}
use Rattle.cq_vectors_stored.proofs.ColumnLemmas.{without_nulls}
use Rattle.cq_hash_groups_sums.specs.NumberColumns.{with_nulls}
use Rattle.cq_hash_groups_sums.specs.Puts.{PutFrom, put_sum}
use Rattle.cq_hash_groups_sums.proofs.Numbered.{read-at, with_nulls-long}
use Rattle.cq_hash_groups_sums.proofs.Putting.{put_from-step, small_room}
use Rattle.cq_hash_groups_sums.proofs.small_sums.put_column.Goals as goal

pub returns-then-is_clear-clause-put : goal.returns-then-is_clear-clause-put
returns-then-is_clear-clause-put g c =
    let column = g.C.NumberColumn.numbers c.args.column.now in
    let clear = OnTrue_at c.if-is_clear.true c.is_clear.ensures in
    subst (λ (vs : List Value). PutFrom 0 c.put_numbers.result c.args.numbers.now vs c.args.sums.now c.put_numbers.new.sums)
    (sym (without_nulls column c.args.nulls.now c.requires.flags clear)) c.put_numbers.ensures.put

pub with_number_unless-requires : goal.with_number_unless-requires
with_number_unless-requires g c =
    let lt : c.loop-place.place < length c.args.numbers.now = omega (arith, c.loop-place-test.true, c.requires.same, c.requires.flags, c.len-place-end.ensures.len) in
    small_room c.loop-place.invariant c.index-sums-group.result lt c.requires.there (first_of (omega arith, search rules, grind arith)) c.requires.room

pub loop-place-preserved : goal.loop-place-preserved
loop-place-preserved g c =
    let column = g.C.NumberColumn.numbers c.args.column.now in
    let nulls = c.args.nulls.now in
    let lt : c.loop-place.place < length column = omega (arith, c.loop-place-test.true, c.requires.flags, c.len-place-end.ensures.len) in
    let read : to_z w64 (of_z w64 c.at-number.result) ≡ get_or column c.loop-place.place (pos 0) = search (arith, ints, to_z-of_z, c.at-number.ensures) in
    let value = read-at column nulls c.requires.flags c.loop-place.place _ _ lt read c.get.ensures in
    put_from-step c.loop-place.invariant c.index-sums-group.result (omega (arith, lt, c.requires.same)) c.requires.there (get_or (with_nulls column nulls) c.loop-place.place Null) c.in-Some-with_number_unless.sum
    (c.requires.same ∙ with_nulls-long column nulls c.requires.flags) refl (c.in-Some-with_number_unless.ensures.sum ∙ ap (put_sum _) value) c.in-Some-with_number_unless.ensures.within
