use Rattle.std.proofs.Common.{arith, ◌∙◌}
use Rattle.cq_test_plain.proofs.aggregates.sum.Goals as goal
use Rattle.cq_model.proofs.ListedValues.{total-next}

pub loop-value-preserved : goal.loop-value-preserved
loop-value-preserved c = (
  c.add_value.ensures.sum ∙ total-next c.args.values.now c.loop-value.value-index c.value-item.result c.loop-value.total c.loop-value-test.true c.value-item.is c.loop-value.invariant.0,
  omega (arith, c.add_value.ensures.small, c.loop-value.invariant.1),
)
