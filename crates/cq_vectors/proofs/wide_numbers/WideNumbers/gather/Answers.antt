use Rattle.std.proofs.Common.{◌∙◌, arith, subst, sym, to_z-of_z, FitsSigned}
use Rattle.std.specs.Int.{w128}
use Rattle.cq_vectors.proofs.Gathering.{gathers_start, gathers_long, length-column_of, numbers_fit, numbers_whole, numbers_zero, row_more}
use Rattle.cq_vectors.proofs.wide_numbers.WideNumbers.gather.Goals as goal

pub loop-row-init : goal.loop-row-init
loop-row-init c = gathers_start (c.reserve.ensures.items ∙ c.new-values.ensures.items) c.new-nulls.ensures

pub push-requires-in-Some : goal.push-requires-in-Some
push-requires-in-Some c = omega (arith, c.requires, c.loop-row-test.true, c.loop-row.auto.row-index-end, (gathers_long c.loop-row.invariant).0)

pub loop-row-preserved : goal.loop-row-preserved
loop-row-preserved c =
    let fits : FitsSigned w128 c.in-Some.number = subst (FitsSigned w128) (sym c.in-Some.ensures.number) c.in-Some.ensures.kind.fits in
    row_more c.args.rows.now c.args.column c.loop-row.row-index _ c.row-item.result _ c.in-Some.is_null (omega (arith, c.loop-row-test.true, c.loop-row.auto.row-index-end)) c.row-item.is c.loop-row.invariant
    c.in_ok-push-in-Some.ensures.items c.push-in-Some.ensures (to_z-of_z fits ∙ c.in-Some.ensures.number) c.in-Some.ensures.null c.in-Some.ensures.kind

pub new-requires-clause-few : goal.new-requires-clause-few
new-requires-clause-few c = omega (arith, c.requires, length-column_of c.args.rows.now c.args.column, gathers_long c.loop-row.invariant)

pub new-requires-clause-zero : goal.new-requires-clause-zero
new-requires-clause-zero c = numbers_zero c.loop-row.invariant (omega (arith, c.loop-row-test.false, c.loop-row.auto.row-index-end, length-column_of c.args.rows.now c.args.column))

pub new-requires-clause-fit : goal.new-requires-clause-fit
new-requires-clause-fit c = numbers_fit c.loop-row.invariant (omega (arith, c.loop-row-test.false, c.loop-row.auto.row-index-end, length-column_of c.args.rows.now c.args.column)) (record { sfits = omega arith })

pub returns : goal.returns
returns c = c.new.ensures ∙ numbers_whole c.loop-row.invariant (omega (arith, c.loop-row-test.false, c.loop-row.auto.row-index-end, length-column_of c.args.rows.now c.args.column))
