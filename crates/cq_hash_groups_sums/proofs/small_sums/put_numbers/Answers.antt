use Rattle.std.proofs.Common.{◌≡◌, ◌<◌, ◌∙◌, ap, arith, get_or, length, map, of_z, pos, refl, rules, sym, to_z, w64}
use Rattle.std.proofs.lemmas.Int.{ints, to_z-of_z}
use Rattle.std.proofs.lemmas.List.{get_or-map, length-map}
use Rattle.cq_values.specs.declared.value.Value.TheVariants.{Null, Number}
use Rattle.cq_hash_groups_sums.specs.Puts.{put_sum}
use Rattle.cq_hash_groups_sums.proofs.Putting.{put_from-step, small_room}
use Rattle.cq_hash_groups_sums.proofs.small_sums.put_numbers.Goals as goal

pub with_number-requires : goal.with_number-requires
with_number-requires g c =
    small_room c.loop-place.invariant c.index-sums-group.result (first_of (omega arith, search rules)) c.requires.there (first_of (omega arith, search rules, grind arith)) c.requires.room

pub loop-place-preserved : goal.loop-place-preserved
loop-place-preserved g c =
    let column = g.C.NumberColumn.numbers c.args.column.now in
    let place = c.loop-place.place in
    let lt : place < length c.args.numbers.now = first_of (omega arith, search rules) in
    let read : to_z w64 (of_z w64 c.at.result) ≡ get_or column place (pos 0) = search (arith, ints, to_z-of_z, c.at.ensures) in
    put_from-step c.loop-place.invariant c.index-sums-group.result lt c.requires.there (get_or (map Number column) place Null) c.in-Some.sum (c.requires.same ∙ sym (length-map column Number)) refl
    (c.in-Some.ensures.sum ∙ ap (put_sum _) (ap Number read ∙ sym (get_or-map Number column place (pos 0) Null (omega (arith, lt, c.requires.same))))) c.in-Some.ensures.within
