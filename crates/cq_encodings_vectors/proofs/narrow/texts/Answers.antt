use Rattle.std.proofs.Common.{◌∙◌, arith, ap, ◌∷◌, []}
use Rattle.std.proofs.lemmas.List.{length-map, map-append}
use Rattle.cq_vectors_stored.specs.Columns.{texts_of}
use Rattle.cq_values.specs.Lent.{owned}
use Rattle.cq_encodings_vectors.proofs.Narrowing.{value_more}
use Rattle.cq_vectors.proofs.Gathering.{gathers_start, gathers_long, texts_whole, texts_empty}
use Rattle.cq_encodings_vectors.proofs.narrow.texts.Goals as goal

pub loop-value-init : goal.loop-value-init
loop-value-init c = gathers_start (ap texts_of (c.reserve.ensures.items ∙ c.new-values.ensures.items)) c.new-nulls.ensures

pub push-requires-in-Some : goal.push-requires-in-Some
push-requires-in-Some c = omega (arith, c.requires, c.loop-value-test.true, c.loop-value.auto.value-index-end, (gathers_long c.loop-value.invariant).0)

pub loop-value-preserved : goal.loop-value-preserved
loop-value-preserved c =
    value_more c.args.lent.now c.loop-value.value-index _ c.value-item.result _ c.in-Some.is_null (omega (arith, c.loop-value-test.true, c.loop-value.auto.value-index-end)) c.value-item.is c.loop-value.invariant
    (ap texts_of c.in_ok-push-in-Some.ensures.items ∙ map-append (λ text. text.now) c.loop-value.values.items (c.in-Some.text ∷ [])) c.push-in-Some.ensures c.in-Some.ensures.text c.in-Some.ensures.null c.in-Some.ensures.kind

pub new-requires-clause-few : goal.new-requires-clause-few
new-requires-clause-few c = omega (arith, c.requires, length-map c.args.lent.now owned, gathers_long c.loop-value.invariant, length-map c.loop-value.values.items (λ text. text.now))

pub new-requires-clause-empty : goal.new-requires-clause-empty
new-requires-clause-empty c = texts_empty c.loop-value.invariant (omega (arith, c.loop-value-test.false, c.loop-value.auto.value-index-end, length-map c.args.lent.now owned))

pub returns : goal.returns
returns c = c.new.ensures ∙ texts_whole c.loop-value.invariant (omega (arith, c.loop-value-test.false, c.loop-value.auto.value-index-end, length-map c.args.lent.now owned))
