use Rattle.std.proofs.Common.{arith}
use Rattle.cq_table_positions.specs.Rows.{rows_in}
use Rattle.cq_table_columns.specs.Stored.{front_rows}
use Rattle.cq_operators_conditions.proofs.Asking.{all-asked, asked-next, exact-next}
use Rattle.cq_operators_conditions.proofs.passed.pass_all.Goals as goal

pub pass_one-requires-clause-exact : goal.pass_one-requires-clause-exact
pass_one-requires-clause-exact c =
    exact-next c.args.before c.args.conditions.now c.loop-condition.condition-index c.condition-item.result c.loop-condition-test.true c.condition-item.is
    (rows_in c.loop-condition.passed) (front_rows c.args.front.now) c.loop-condition.invariant

pub loop-condition-preserved : goal.loop-condition-preserved
loop-condition-preserved c =
    asked-next c.args.before c.args.conditions.now c.loop-condition.condition-index c.condition-item.result c.loop-condition-test.true c.condition-item.is
    (rows_in c.loop-condition.passed) (front_rows c.args.front.now) c.loop-condition.invariant (rows_in c.in_ok-passed.passed)
    c.in_ok-passed.ensures

pub returns : goal.returns
returns c =
    all-asked c.args.before c.args.conditions.now c.loop-condition.condition-index (omega (arith, c.loop-condition-test.false)) (rows_in c.loop-condition.passed) (front_rows c.args.front.now) c.loop-condition.invariant
