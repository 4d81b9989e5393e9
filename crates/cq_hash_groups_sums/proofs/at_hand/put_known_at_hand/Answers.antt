use Rattle.std.proofs.Common.{◌≡◌, ℤ, ◌+◌, ◌+ℤ◌, ◌<◌, ◌∙◌, ap, arith, get_or, length, map, of_z, rules, to_z, w64}
use Rattle.std.proofs.lemmas.Int.{ints, to_z-of_z}
use Rattle.std.proofs.lemmas.List.{get_or_default}
use Rattle.cq_model.specs.Totals.{total_of}
use Rattle.cq_values.specs.declared.value.Value.TheVariants.{Number}
use Rattle.cq_hash_groups_sums.specs.declared.wide_sums.Sum.{Sum}
use Rattle.cq_hash_groups_sums.specs.Puts.{no_sum, summed}
use Rattle.cq_hash_groups_sums.proofs.OneGroup.{total-put}
use Rattle.cq_hash_groups_sums.proofs.at_hand.put_known_at_hand.Goals as goal

pub returns-in-Some-clause-put : goal.returns-in-Some-clause-put
returns-in-Some-clause-put g c =
    let column = g.C.NumberColumn.numbers c.args.column.now in
    let numbers = c.args.numbers.now in
    let sums = c.args.sums.now in
    let group = c.args.group in
    let many = length numbers in
    let some : 0 < many = first_of (omega (arith, c.if-many-gt0.true), search rules) in
    let total : to_z w64 (of_z w64 c.total_at_hand-total.result) ≡ total_of (map Number column) = search (arith, ints, to_z-of_z, c.total_at_hand-total.ensures) in
    let first = get_or sums group no_sum in
    let is : c.in-Some.sum ≡ summed (first.count + many) (first.total +ℤ total_of (map Number column)) =
    c.in-Some.ensures.sum
    ∙ ap (λ (s : Sum). summed (s.count + many) (s.total +ℤ to_z w64 (of_z w64 c.total_at_hand-total.result))) (get_or_default sums group c.index-sums-group.result no_sum c.requires.group)
    ∙ ap (λ (t : ℤ). summed (first.count + many) (first.total +ℤ t)) total in
    total-put group numbers column sums c.in-Some.sum c.requires.group c.requires.one c.requires.same some is c.in-Some.ensures.small
