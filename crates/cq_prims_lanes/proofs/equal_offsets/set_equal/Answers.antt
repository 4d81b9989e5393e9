use Rattle.std.proofs.Common.{◌∙◌, ◌<◌, arith, eqb, get_or, refl, rules}
use Rattle.std.proofs.lemmas.Bool.{eqb-true}
use Rattle.cq_model_bags.proofs.Totals.{by_test}
use Rattle.cq_prims_lanes.proofs.OffsetTests.{by_none, by_places}
use Rattle.cq_prims_lanes.proofs.equal_offsets.set_equal.Goals as goal

pub returns-then-offset-from : goal.returns-then-offset-from
returns-then-offset-from g c =
    let offsets = g.T.Offset.numbers c.args.offsets.now in
    c.set_known_by.ensures ∙ by_places offsets c.args.nulls.now c.requires (λ o. eqb o c.args.offset) (λ o. eqb o c.args.offset) (λ k. refl)

pub returns-else-offset-from : goal.returns-else-offset-from
returns-else-offset-from g c =
    let offsets = g.T.Offset.numbers c.args.offsets.now in
    let many : c.greatest_of.result < c.args.offset = search rules in
    c.set_never.ensures
    ∙ by_none (λ o. eqb o c.args.offset) offsets c.args.nulls.now c.requires (λ k. by_test (eqb (get_or offsets k 0) c.args.offset)
    (λ e. absurd (omega (arith, many, c.greatest_of.ensures.above k, eqb-true (get_or offsets k 0) c.args.offset e)))
    (λ e. e))
