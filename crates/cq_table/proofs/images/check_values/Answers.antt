use Rattle.std.proofs.lemmas.Result.{err_from_is_err_and}
use Rattle.cq_table.proofs.Checked.{value_passed, value_refused}
use Rattle.cq_table.proofs.images.check_values.Goals as goal

pub returns-in_err-check_value : goal.returns-in_err-check_value
returns-in_err-check_value c =
    let p = err_from_is_err_and c.from_residual.result c.from_residual.ensures.1 in
    rw (p.1, p.2)
    (value_refused c.args.columns.now c.args.rows.now c.args.assignments.now c.loop-assignment.assignment-index c.assignment-item.result c.loop-assignment-test.true c.assignment-item.is c.loop-assignment.invariant
    c.in_err-check_value.field-0.0 c.in_err-check_value.ensures)

pub loop-assignment-preserved : goal.loop-assignment-preserved
loop-assignment-preserved c =
    value_passed c.args.columns.now c.args.rows.now c.args.assignments.now c.loop-assignment.assignment-index c.assignment-item.result c.loop-assignment-test.true c.assignment-item.is c.loop-assignment.invariant
    c.in_ok-check_value.ensures
