use Rattle.std.proofs.Common.{◌∙◌, arith, to_z-of_z, w32, FitsSigned}
use Rattle.std.proofs.lemmas.List.{length-map}
use Rattle.cq_values.specs.Lent.{owned}
use Rattle.cq_encodings_vectors.proofs.Narrowing.{value_more}
use Rattle.cq_vectors.proofs.Gathering.{gathers_start, gathers_long, days_are, days_whole, days_zero}
use Rattle.cq_encodings_vectors.proofs.narrow.days.Goals as goal

pub loop-value-init : goal.loop-value-init
loop-value-init c = gathers_start (c.reserve.ensures.items ∙ c.new-values.ensures.items) c.new-nulls.ensures

pub push-requires-in-Some : goal.push-requires-in-Some
push-requires-in-Some c = omega (arith, c.requires, c.loop-value-test.true, c.loop-value.auto.value-index-end, (gathers_long c.loop-value.invariant).0)

pub loop-value-preserved : goal.loop-value-preserved
loop-value-preserved c =
    let fits : FitsSigned w32 c.in-Some.number = c.in-Some.ensures.fits in
    value_more c.args.lent.now c.loop-value.value-index _ c.value-item.result _ c.in-Some.is_null (omega (arith, c.loop-value-test.true, c.loop-value.auto.value-index-end)) c.value-item.is c.loop-value.invariant
    c.in_ok-push-in-Some.ensures.items c.push-in-Some.ensures (to_z-of_z fits ∙ c.in-Some.ensures.number) c.in-Some.ensures.null c.in-Some.ensures.kind

pub new-requires-clause-few : goal.new-requires-clause-few
new-requires-clause-few c = omega (arith, c.requires, length-map c.args.lent.now owned, gathers_long c.loop-value.invariant)

pub new-requires-clause-zero : goal.new-requires-clause-zero
new-requires-clause-zero c = days_zero c.loop-value.invariant (omega (arith, c.loop-value-test.false, c.loop-value.auto.value-index-end, length-map c.args.lent.now owned))

pub new-requires-clause-days : goal.new-requires-clause-days
new-requires-clause-days c = days_are c.loop-value.invariant (omega (arith, c.loop-value-test.false, c.loop-value.auto.value-index-end, length-map c.args.lent.now owned))

pub returns : goal.returns
returns c = c.new.ensures ∙ days_whole c.loop-value.invariant (omega (arith, c.loop-value-test.false, c.loop-value.auto.value-index-end, length-map c.args.lent.now owned))
