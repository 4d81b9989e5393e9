use Rattle.std.proofs.Common.{◌∙◌, ◌<◌, length, sym, arith}
use Rattle.cq_model_core.specs.Core.{same_join}
use Rattle.cq_plan_core.proofs.Parts.{rest-next, rest-other}
use Rattle.cq_plan_core.proofs.lists.same_joins.Goals as goal

pub returns-then-not-same_join : goal.returns-then-not-same_join
returns-then-not-same_join c =
    let inside : c.loop-place.place < length c.args.b.now = omega (arith, c.loop-place-test.true, c.if-a-b.false) in
    sym (rest-other same_join c.args.a.now c.args.b.now c.loop-place.place c.index-a-place.result c.index-b-place.result c.loop-place-test.true inside c.index-a-place.is c.index-b-place.is c.loop-place.invariant
    (sym c.same_join.ensures ∙ c.if-not-same_join.true))

pub loop-place-preserved : goal.loop-place-preserved
loop-place-preserved c =
    let inside : c.loop-place.place < length c.args.b.now = omega (arith, c.loop-place-test.true, c.if-a-b.false) in
    rest-next same_join c.args.a.now c.args.b.now c.loop-place.place c.index-a-place.result c.index-b-place.result c.loop-place-test.true inside c.index-a-place.is c.index-b-place.is c.loop-place.invariant
    (sym c.same_join.ensures ∙ c.if-not-same_join.false)
