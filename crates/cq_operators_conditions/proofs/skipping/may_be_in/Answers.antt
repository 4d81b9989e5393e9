use Rattle.std.proofs.Common.{arith}
use Rattle.std.proofs.lemmas.Bool.{OnFalse_at}
use Rattle.cq_model.specs.Trees.{expr_of}
use Rattle.cq_operators_conditions.specs.Skipping.{bounded_rows}
use Rattle.cq_operators_conditions.proofs.Skipped.{none-in, none-next, none-yet}
use Rattle.cq_operators_conditions.proofs.skipping.may_be_in.Goals as goal

pub loop-choice-init : goal.loop-choice-init
loop-choice-init c = none-yet c.args.before (bounded_rows c.args.rows.now) (expr_of c.args.expr.now)

pub loop-choice-preserved : goal.loop-choice-preserved
loop-choice-preserved c =
    none-next c.args.before (bounded_rows c.args.rows.now) (expr_of c.args.expr.now) c.args.choices.now c.loop-choice.choice-index c.choice-item.result c.loop-choice-test.true c.choice-item.is c.loop-choice.invariant (OnFalse_at c.if-may_compare.false c.may_compare.ensures)

pub returns : goal.returns
returns c =
    none-in c.args.before (bounded_rows c.args.rows.now) (expr_of c.args.expr.now) c.args.choices.now c.loop-choice.choice-index (omega (arith, c.loop-choice-test.false)) c.loop-choice.invariant
