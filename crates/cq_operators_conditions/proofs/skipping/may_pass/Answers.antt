use Rattle.cq_model.specs.Trees.{expr_of}
use Rattle.cq_operators_conditions.specs.Skipping.{bounded_rows}
use Rattle.cq_operators_conditions.proofs.Skipped.{none-compared, none-known, none-null}
use Rattle.cq_operators_conditions.proofs.skipping.may_pass.Goals as goal

pub returns-in-Some-constant_of : goal.returns-in-Some-constant_of
returns-in-Some-constant_of c =
    rw c.in-Compare.is (none-compared c.args.before (bounded_rows c.args.rows.now) (expr_of c.args.expr.now) c.in-Some.column c.in-Some.ensures c.may_match.result
    c.in-Compare.comparison (expr_of c.in-Compare.other.now) c.in-Some-constant_of.constant c.in-Some-constant_of.ensures c.may_match.ensures)

pub returns-in-IsNull : goal.returns-in-IsNull
returns-in-IsNull c =
    rw c.in-IsNull.is (none-null c.args.before (bounded_rows c.args.rows.now) (expr_of c.args.expr.now) c.in-Some.column c.in-Some.ensures c.may_match-in-IsNull.result c.may_match-in-IsNull.ensures)

pub returns-in-IsNotNull : goal.returns-in-IsNotNull
returns-in-IsNotNull c =
    rw c.in-IsNotNull.is (none-known c.args.before (bounded_rows c.args.rows.now) (expr_of c.args.expr.now) c.in-Some.column c.in-Some.ensures c.may_match-in-IsNotNull.result c.may_match-in-IsNotNull.ensures)
