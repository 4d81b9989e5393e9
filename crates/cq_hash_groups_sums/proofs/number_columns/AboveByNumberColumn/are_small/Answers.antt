use Rattle.std.proofs.Common.{◌^◌, ◌≤◌, arith, nat_abs, rules}
use Rattle.std.proofs.lemmas.Bool.{OnTrue_from}
use Rattle.std.proofs.lemmas.Int.{ints, to_z-of_z}
use Rattle.cq_hash_groups_sums.specs.NumberColumns.{AreSmall, all_above}
use Rattle.cq_hash_groups_sums.proofs.Numbered.{small-above}
use Rattle.cq_hash_groups_sums.proofs.number_columns.AboveByNumberColumn.are_small.Goals as goal

pub returns : goal.returns
returns g c =
    let base = c.args.self.now.base in
    let offsets = g.T.Offset.numbers c.args.self.now.offsets.now in
    OnTrue_from _ (AreSmall (all_above base offsets))
    (λ set place.
    let near : nat_abs base ≤ 2 ^ 52 = first_of (search (arith, ints, to_z-of_z, set, c.unsigned_abs.ensures), search (rules, set), grind (arith, set)) in
    small-above base offsets place near (λ k. first_of (omega (arith, c.greatest_of-most.ensures.above k), search (rules, arith, c.greatest_of-most.ensures.above k))))
