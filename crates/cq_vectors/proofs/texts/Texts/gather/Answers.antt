use Rattle.std.proofs.Common.{◌∙◌, arith, ap, ◌∷◌, []}
use Rattle.std.proofs.lemmas.List.{length-map, map-append}
use Rattle.cq_vectors_stored.specs.Columns.{texts_of}
use Rattle.cq_vectors.proofs.Gathering.{gathers_start, gathers_long, length-column_of, texts_whole, texts_empty, row_more}
use Rattle.cq_vectors.proofs.texts.Texts.gather.Goals as goal

pub loop-row-init : goal.loop-row-init
loop-row-init c = gathers_start (ap texts_of (c.reserve.ensures.items ∙ c.new-values.ensures.items)) c.new-nulls.ensures

pub push-requires-in-Some : goal.push-requires-in-Some
push-requires-in-Some c = omega (arith, c.requires, c.loop-row-test.true, c.loop-row.auto.row-index-end, (gathers_long c.loop-row.invariant).0)

pub loop-row-preserved : goal.loop-row-preserved
loop-row-preserved c =
    row_more c.args.rows.now c.args.column c.loop-row.row-index _ c.row-item.result _ c.in-Some.is_null (omega (arith, c.loop-row-test.true, c.loop-row.auto.row-index-end)) c.row-item.is c.loop-row.invariant
    (ap texts_of c.in_ok-push-in-Some.ensures.items ∙ map-append (λ text. text.now) c.loop-row.values.items (c.in-Some.text ∷ [])) c.push-in-Some.ensures c.in-Some.ensures.text c.in-Some.ensures.null c.in-Some.ensures.kind

pub new-requires-clause-few : goal.new-requires-clause-few
new-requires-clause-few c = omega (arith, c.requires, length-column_of c.args.rows.now c.args.column, gathers_long c.loop-row.invariant, length-map c.loop-row.values.items (λ text. text.now))

pub new-requires-clause-empty : goal.new-requires-clause-empty
new-requires-clause-empty c = texts_empty c.loop-row.invariant (omega (arith, c.loop-row-test.false, c.loop-row.auto.row-index-end, length-column_of c.args.rows.now c.args.column))

pub returns : goal.returns
returns c = c.new.ensures ∙ texts_whole c.loop-row.invariant (omega (arith, c.loop-row-test.false, c.loop-row.auto.row-index-end, length-column_of c.args.rows.now c.args.column))
