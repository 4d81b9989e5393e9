use Rattle.std.proofs.Common.{rules, tests}
use Rattle.cq_model.specs.Own.{tests_only}
use Rattle.cq_model.specs.Trees.{cond_of}
use Rattle.cq_model_terms.proofs.Trees.{first-fails, others-all-pass, tested-parts}
use Rattle.cq_model_terms.proofs.named.+tests_only.Goals as goal

pub returns-then-not-tests_only : goal.returns-then-not-tests_only
returns-then-not-tests_only t c =
    first-fails (λ t. tests_only c.args.before c.args.wide (cond_of t)) c.args.tree.now c.in-And.first.value c.deref-in-And.result.now c.in-And.rest.items c.deref-in-And.ensures
    (tested-parts c.args.before c.args.wide c.args.tree.now c.in-And.first c.in-And.rest c.in-And.is) (search (rules, tests))

pub loop-part-init : goal.loop-part-init
loop-part-init t c =
    others-all-pass (λ t. tests_only c.args.before c.args.wide (cond_of t)) c.args.tree.now c.in-And.first.value c.deref-in-And.result.now c.in-And.rest.items c.deref-in-And.ensures
    (tested-parts c.args.before c.args.wide c.args.tree.now c.in-And.first c.in-And.rest c.in-And.is) c.deref-part-items.result.now c.deref-part-items.ensures.value (search (rules, tests))
