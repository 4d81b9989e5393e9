use Rattle.std.proofs.lemmas.Result.{err_from_is_err_and}
use Rattle.cq_test_plain.specs.Wide.{IsWideAt}
use Rattle.cq_test_plain.proofs.Exits.{tells_more, any_more}
use Rattle.cq_test_plain.proofs.Once.{at_listed}
use Rattle.cq_test_plain.proofs.answering.shown.Goals as goal

pub returns-in_err-items_of-clause-fault : goal.returns-in_err-items_of-clause-fault
returns-in_err-items_of-clause-fault c =
    let p = err_from_is_err_and c.from_residual.result c.from_residual.ensures.1 in
    let e = rw c.as_slice.ensures at c.in_err-items_of.ensures.fault in
    rw (p.1, p.2)
    (tells_more (any_more (λ item. at_listed (IsWideAt item) c.args.rows.now c.loop-row.row-index c.row-item.result c.loop-row-test.true c.row-item.is) c.args.items.now) (λ x. x) c.in_err-items_of.field-0.0 e)
