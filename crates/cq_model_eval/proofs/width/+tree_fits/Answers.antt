use Rattle.std.proofs.Common.{rules, tests}
use Rattle.cq_model.specs.Width.{limits_of}
use Rattle.cq_model_eval.proofs.Widths.{first-narrow, first-wide}
use Rattle.cq_model_eval.proofs.width.+tree_fits.Goals as goal

pub returns-then-not-tree_fits : goal.returns-then-not-tree_fits
returns-then-not-tree_fits t c =
    first-wide (limits_of c.args.sizes.now) c.args.tree.now c.in-And.first c.in-And.rest c.deref-in-And.result.now c.deref-in-And.ensures c.in-And.is (search (rules, tests))

pub loop-part-init : goal.loop-part-init
loop-part-init t c =
    first-narrow (limits_of c.args.sizes.now) c.args.tree.now c.in-And.first c.in-And.rest c.deref-in-And.result.now c.deref-in-And.ensures c.in-And.is c.deref-part-items.result.now c.deref-part-items.ensures.value (search (rules, tests))
