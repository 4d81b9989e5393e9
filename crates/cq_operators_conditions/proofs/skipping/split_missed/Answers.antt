use Rattle.std.proofs.lemmas.Bool.{OnFalse_at}
use Rattle.cq_operators_conditions.proofs.Skipped.{none-passes}
use Rattle.cq_operators_conditions.proofs.skipping.split_missed.Goals as goal

pub returns-then-not-may_hold-clause-none : goal.returns-then-not-may_hold-clause-none
returns-then-not-may_hold-clause-none c =
    none-passes c.args.before c.args.conditions.now c.loop-condition.condition-index c.condition-item.result c.in_ok-segment.segment.now c.loop-condition-test.true c.condition-item.is (OnFalse_at c.if-not-may_hold.true c.may_hold.ensures)
