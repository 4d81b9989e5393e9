use Rattle.std.proofs.Common.{arith}
use Rattle.cq_views_state.proofs.Naming.{all-ends, first-ends, next-ends}
use Rattle.cq_views_state.proofs.columns.+greatest_column.Goals as goal

pub loop-part-init : goal.loop-part-init
loop-part-init t c =
    first-ends c.args.tree.now c.in-Sum.first c.in-Sum.rest c.deref-in-Sum.result.now c.deref-in-Sum.ensures c.in-Sum.is
    c.deref-part-items.result.now c.deref-part-items.ensures.value c.greatest_column-greatest.result c.greatest_column-greatest.ensures

pub loop-part-preserved : goal.loop-part-preserved
loop-part-preserved t c =
    next-ends c.args.tree.now c.deref-part-items.result.now c.loop-part.part-index c.loop-part.greatest c.loop-part.invariant
    c.part-item.result c.loop-part-test.true c.part-item.is
    c.greatest_column-in-loop-part.result c.max-greatest.result c.greatest_column-in-loop-part.ensures
    (omega (arith, c.max-greatest.ensures)) (omega (arith, c.max-greatest.ensures))

pub returns-after-loop-part : goal.returns-after-loop-part
returns-after-loop-part t c =
    all-ends c.args.tree.now c.deref-part-items.result.now c.loop-part.part-index c.loop-part.greatest c.loop-part.invariant c.loop-part-test.false
