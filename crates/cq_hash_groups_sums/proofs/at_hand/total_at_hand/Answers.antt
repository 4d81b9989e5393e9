use Rattle.std.proofs.Common.{◌≡◌, ◌+◌, ◌*◌, ◌^◌, ◌<◌, ◌≤◌, ◌+ℤ◌, arith, get_or, length, map, nat_abs, of_z, pos, rules, sym, take, to_z, w64}
use Rattle.std.proofs.lemmas.Int.{ints, to_z-of_z}
use Rattle.std.proofs.lemmas.List.{get_or-map, length-map}
use Rattle.cq_model.proofs.ListedValues.{total-next}
use Rattle.cq_model.specs.Totals.{total_of}
use Rattle.cq_values.specs.declared.value.Value.TheVariants.{Number}
use Rattle.cq_hash_groups_sums.proofs.at_hand.total_at_hand.Goals as goal

pub loop-place-preserved : goal.loop-place-preserved
loop-place-preserved g c =
    let column = g.C.NumberColumn.numbers c.args.column.now in
    let values = map Number column in
    let place = c.loop-place.place in
    let total = to_z w64 c.loop-place.total-bits in
    let n = get_or column place (pos 0) in
    let so_far = c.loop-place.invariant in
    let lt : place < length column = first_of (omega (arith, c.loop-place-test.true, c.requires.many), search rules) in
    let in_values : place < length values = omega (arith, lt, length-map column Number) in
    let read : to_z w64 (of_z w64 c.at-total.result) ≡ n = search (arith, ints, to_z-of_z, c.at-total.ensures) in
    let small : nat_abs n ≤ 2 ^ 52 + 2 ^ 32 = c.requires.small place in
    let few : place < 1024 = first_of (omega (arith, c.loop-place-test.true, c.requires.few), search rules) in
    let size : nat_abs total ≤ place * (2 ^ 52 + 2 ^ 32) = so_far.1 in
    let larger : nat_abs (total +ℤ n) ≤ (place + 1) * (2 ^ 52 + 2 ^ 32) = first_of (omega (arith, ints, size, small), search (arith, ints, size, small)) in
    let kept : to_z w64 (of_z w64 (total +ℤ n)) ≡ total +ℤ n = search (arith, ints, to_z-of_z, larger, few) in
    let more : total +ℤ n ≡ total_of (take (place + 1) values) = total-next values place (Number n) total in_values (sym (get_or-map Number column place (pos 0) (Number n) lt)) so_far.0 in
    rw (read, kept) (more, larger)
