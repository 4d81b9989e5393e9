use Rattle.std.proofs.lemmas.Result.{err_from_is_err_and}
use Rattle.cq_test_plain.specs.Wide.{IsWideAt}
use Rattle.cq_test_plain.proofs.Exits.{tells_more}
use Rattle.cq_test_plain.proofs.Once.{at_listed}
use Rattle.cq_test_plain.proofs.aggregates.value_rows.Goals as goal

pub returns-in_err-value-clause-fault : goal.returns-in_err-value-clause-fault
returns-in_err-value-clause-fault c =
    let p = err_from_is_err_and c.from_residual.result c.from_residual.ensures.1 in
    let e = rw c.as_slice.ensures at c.in_err-value.ensures.fault in
    rw (p.1, p.2) (tells_more (at_listed (IsWideAt c.args.expr.now) c.args.rows.now c.loop-row.row-index c.row-item.result c.loop-row-test.true c.row-item.is) (λ x. x) c.in_err-value.field-0.0 e)
