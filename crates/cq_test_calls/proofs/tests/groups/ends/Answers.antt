use Rattle.std.proofs.Common.{◌≡◌, ◌∙◌, ◌≤◌, [], arith, nat_abs, of_z, rules, to_z}
use Rattle.std.specs.Int.{w128}
use Rattle.cq_deltas.specs.Keyed.{additions_at}
use Rattle.cq_test_calls.proofs.tests.groups.ends.Goals as goal

pub shown_alone-requires-clause-small : goal.shown_alone-requires-clause-small
shown_alone-requires-clause-small c =
    let none : additions_at c.open-open.result.now c.new-change.result ≡ [] = λ i. additions_at ((c.open-open.ensures.same ∙ c.new-groups.ensures) i) (c.new-change.ensures i) in
    let threes : nat_abs (to_z w128 (of_z w128 c.from-threes.result)) ≤ 128 = search rules in
    let fives : nat_abs (to_z w128 (of_z w128 c.from-fives.result)) ≤ 128 = search rules in
    rw (c.in_ok-ready-4.ensures.adds.adds, c.in_ok-ready-3.ensures.adds.adds, c.in_ok-ready-2.ensures.adds.adds, c.in_ok-ready.ensures.adds.adds, none) (record {
      counts = omega (arith, fives, threes);
      totals = search rules;
    })
