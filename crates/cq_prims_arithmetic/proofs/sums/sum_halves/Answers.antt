use Rattle.std.proofs.Common.{rules, arith, pos, ◌+ℤ◌, ◌+◌, ◌≡◌, ◌≤◌, take, get_or, ◌*ℤ◌, ◌^◌, ◌∙◌, sym, nat_abs, to_z, of_z}
use Rattle.std.specs.Int.{w64, w128}
use Rattle.std.proofs.lemmas.Int.{ints, to_z-of_z}
use Rattle.std.proofs.lemmas.List.Sums.{fold_more}
use Rattle.cq_prims_arithmetic.specs.Sums.{sum_at}
use Rattle.cq_prims_arithmetic.proofs.SumLemmas.{added_halves}
use Rattle.cq_prims_arithmetic.proofs.sums.sum_halves.Goals as goal

pub loop-i-preserved : goal.loop-i-preserved
loop-i-preserved c =
    let i = c.loop-i.i in
    let values = c.args.values.now in
    let places = c.args.places.now in
    let low = to_z w128 c.loop-i.low-bits in
    let high = to_z w128 c.loop-i.high-bits in
    let lower = c.from-low.result in
    let upper = c.from-high.result in
    let n = get_or values (get_or places i 0) (pos 0) in
    let more : sum_at values (take (i + 1) places) ≡ sum_at values (take i places) +ℤ n = fold_more (λ sum place. sum +ℤ get_or values place (pos 0)) (pos 0) places i 0 (omega arith) in
    let n_kept : to_z w128 (of_z w128 n) ≡ n = search rules in
    let part_kept : to_z w64 (of_z w64 c.halves-lower.result.1) ≡ c.halves-lower.result.1 = search rules in
    let whole : lower +ℤ upper *ℤ pos (2 ^ 64) ≡ n = rw (c.from-low.ensures, c.from-high.ensures, part_kept) (c.halves-lower.ensures ∙ n_kept) in
    let lower_small : nat_abs lower ≤ 2 ^ 64 = search (rules, ints) in
    let upper_small : nat_abs upper ≤ 2 ^ 63 = search (rules, ints) in
    let lower_kept : to_z w128 (of_z w128 lower) ≡ lower = search (arith, ints, to_z-of_z) in
    let upper_kept : to_z w128 (of_z w128 upper) ≡ upper = search (arith, ints, to_z-of_z) in
    let low_kept : to_z w128 (of_z w128 (low +ℤ lower)) ≡ low +ℤ lower = search (arith, ints, to_z-of_z) in
    let high_kept : to_z w128 (of_z w128 (high +ℤ upper)) ≡ high +ℤ upper = search (arith, ints, to_z-of_z) in
    let so_far = c.loop-i.invariant in
    rw (lower_kept, upper_kept, low_kept, high_kept) (added_halves low high lower upper _ n so_far.0 whole ∙ sym more, search (arith, ints, so_far.1, lower_small), search (arith, ints, so_far.2, upper_small))
