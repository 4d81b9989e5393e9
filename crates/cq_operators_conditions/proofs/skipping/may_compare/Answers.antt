use Rattle.cq_model.specs.Trees.{expr_of}
use Rattle.cq_operators_conditions.specs.Skipping.{bounded_rows}
use Rattle.cq_operators_conditions.proofs.Skipped.{none-turned}
use Rattle.cq_operators_conditions.proofs.skipping.may_compare.Goals as goal

pub returns-then-may_pass : goal.returns-then-may_pass
returns-then-may_pass c =
    none-turned c.args.before (bounded_rows c.args.rows.now) c.args.comparison c.turned-turned.result (expr_of c.args.a.now) (expr_of c.args.b.now) c.may_pass-then-may_pass.result c.turned-turned.ensures c.may_pass-then-may_pass.ensures
