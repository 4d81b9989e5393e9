use Rattle.std.proofs.Common.{◌≡◌, ◌<◌, ◌∙◌, ℕ, ap, arith, get_or, length, of_z, pos, refl, subst, to_z, w64}
use Rattle.std.proofs.lemmas.Int.{ints, to_z-of_z}
use Rattle.cq_values.specs.declared.value.Value.TheVariants.{Null}
use Rattle.cq_hash_groups_sums.specs.NumberColumns.{with_nulls}
use Rattle.cq_hash_groups_sums.specs.Puts.{PutFrom, put_sum}
use Rattle.cq_hash_groups_sums.proofs.Numbered.{read-at, with_nulls-long}
use Rattle.cq_hash_groups_sums.proofs.Putting.{put_from-step, wide_room}
use Rattle.cq_hash_groups_sums.proofs.wide_sums.put_column.Goals as goal

pub put-requires : goal.put-requires
put-requires g c =
    wide_room c.loop-place.invariant c.index-sums-numbers.result (omega (arith, c.loop-place-test.true, c.requires.same, c.requires.flags, c.len-place-end.ensures.len)) c.requires.there
    (omega (arith, c.loop-place-test.true, c.len-place-end.ensures.few)) c.requires.room

pub loop-place-preserved : goal.loop-place-preserved
loop-place-preserved g c =
    let column = g.C.NumberColumn.numbers c.args.column.now in
    let lt : c.loop-place.place < length column = omega (arith, c.loop-place-test.true, c.requires.flags, c.len-place-end.ensures.len) in
    let nulls = c.args.nulls.now in
    let read : to_z w64 (of_z w64 c.at-number.result) ≡ get_or column c.loop-place.place (pos 0) = search (arith, ints, to_z-of_z, c.at-number.ensures) in
    put_from-step c.loop-place.invariant c.index-sums-numbers.result (omega (arith, lt, c.requires.same)) c.requires.there (get_or (with_nulls column nulls) c.loop-place.place Null) c.put.new.self
    (c.requires.same ∙ with_nulls-long column nulls c.requires.flags) refl
    (c.put.ensures.sum ∙ ap (put_sum _) (c.lent_unless.ensures ∙ read-at column nulls c.requires.flags c.loop-place.place _ _ lt read c.get.ensures)) c.put.ensures.within

pub returns : goal.returns
returns g c =
    let numbers = c.args.numbers.now in
    let values = with_nulls (g.C.NumberColumn.numbers c.args.column.now) c.args.nulls.now in
    let done : c.loop-place.place ≡ length numbers = omega (arith, c.loop-place-test.false, c.requires.same, c.requires.flags, c.requires.start, c.len-place-end.ensures.len) in
    subst (λ (place : ℕ). PutFrom c.args.start place numbers values c.args.sums.now c.loop-place.sums) done c.loop-place.invariant
