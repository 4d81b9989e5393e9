use Rattle.std.proofs.Common.{◌∙◌, arith, to_z-of_z, w32, FitsSigned}
use Rattle.cq_vectors.proofs.Gathering.{gathers_start, gathers_long, length-column_of, days_are, days_whole, days_zero, row_more}
use Rattle.cq_vectors.proofs.days.Days.gather.Goals as goal

pub loop-row-init : goal.loop-row-init
loop-row-init c = gathers_start (c.reserve.ensures.items ∙ c.new-values.ensures.items) c.new-nulls.ensures

pub push-requires-in-Some : goal.push-requires-in-Some
push-requires-in-Some c = omega (arith, c.requires, c.loop-row-test.true, c.loop-row.auto.row-index-end, (gathers_long c.loop-row.invariant).0)

pub loop-row-preserved : goal.loop-row-preserved
loop-row-preserved c =
    let fits : FitsSigned w32 c.in-Some.number = c.in-Some.ensures.fits in
    row_more c.args.rows.now c.args.column c.loop-row.row-index _ c.row-item.result _ c.in-Some.is_null (omega (arith, c.loop-row-test.true, c.loop-row.auto.row-index-end)) c.row-item.is c.loop-row.invariant
    c.in_ok-push-in-Some.ensures.items c.push-in-Some.ensures (to_z-of_z fits ∙ c.in-Some.ensures.number) c.in-Some.ensures.null c.in-Some.ensures.kind

pub new-requires-clause-few : goal.new-requires-clause-few
new-requires-clause-few c = omega (arith, c.requires, length-column_of c.args.rows.now c.args.column, gathers_long c.loop-row.invariant)

pub new-requires-clause-zero : goal.new-requires-clause-zero
new-requires-clause-zero c = days_zero c.loop-row.invariant (omega (arith, c.loop-row-test.false, c.loop-row.auto.row-index-end, length-column_of c.args.rows.now c.args.column))

pub new-requires-clause-days : goal.new-requires-clause-days
new-requires-clause-days c = days_are c.loop-row.invariant (omega (arith, c.loop-row-test.false, c.loop-row.auto.row-index-end, length-column_of c.args.rows.now c.args.column))

pub returns : goal.returns
returns c = c.new.ensures ∙ days_whole c.loop-row.invariant (omega (arith, c.loop-row-test.false, c.loop-row.auto.row-index-end, length-column_of c.args.rows.now c.args.column))
