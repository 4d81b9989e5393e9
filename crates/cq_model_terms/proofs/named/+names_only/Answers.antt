use Rattle.std.proofs.Common.{rules, tests}
use Rattle.cq_model.specs.Own.{names_only}
use Rattle.cq_model.specs.Trees.{expr_of}
use Rattle.cq_model_terms.proofs.Trees.{first-fails, named-chain, others-all-pass}
use Rattle.cq_model_terms.proofs.named.+names_only.Goals as goal

pub returns-then-not-names_only : goal.returns-then-not-names_only
returns-then-not-names_only t c =
    first-fails (λ t. names_only c.args.before c.args.wide (expr_of t)) c.args.tree.now c.in-Sum.first.value c.deref-in-Sum.result.now c.in-Sum.rest.items c.deref-in-Sum.ensures
    (named-chain c.args.before c.args.wide c.args.tree.now c.in-Sum.first c.in-Sum.rest c.in-Sum.is) (search (rules, tests))

pub loop-part-init : goal.loop-part-init
loop-part-init t c =
    others-all-pass (λ t. names_only c.args.before c.args.wide (expr_of t)) c.args.tree.now c.in-Sum.first.value c.deref-in-Sum.result.now c.in-Sum.rest.items c.deref-in-Sum.ensures
    (named-chain c.args.before c.args.wide c.args.tree.now c.in-Sum.first c.in-Sum.rest c.in-Sum.is) c.deref-part-items.result.now c.deref-part-items.ensures.value (search (rules, tests))
