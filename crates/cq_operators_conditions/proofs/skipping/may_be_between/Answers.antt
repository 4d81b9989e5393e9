use Rattle.cq_model.specs.Trees.{expr_of}
use Rattle.cq_operators_conditions.specs.Skipping.{bounded_rows}
use Rattle.cq_operators_conditions.proofs.Skipped.{none-from-least, none-to-greatest}
use Rattle.cq_operators_conditions.proofs.skipping.may_be_between.Goals as goal

pub returns-then-may_compare : goal.returns-then-may_compare
returns-then-may_compare c =
    none-to-greatest c.args.before (bounded_rows c.args.rows.now) (expr_of c.args.expr.now) (expr_of c.args.least.now) (expr_of c.args.greatest.now) c.may_compare-then-may_compare.result c.may_compare-then-may_compare.ensures

pub returns-else-may_compare : goal.returns-else-may_compare
returns-else-may_compare c =
    none-from-least c.args.before (bounded_rows c.args.rows.now) (expr_of c.args.expr.now) (expr_of c.args.least.now) (expr_of c.args.greatest.now) c.may_compare.result c.may_compare.ensures
