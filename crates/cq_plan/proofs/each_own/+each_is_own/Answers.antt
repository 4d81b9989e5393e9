use Rattle.std.proofs.Common.{◌∙◌, ap, rules, tests}
use Rattle.cq_model.specs.Trees.{cond_of}
use Rattle.cq_model_terms.proofs.Trees.{first-fails, others-all-pass}
use Rattle.cq_plan.specs.EachOwn.{each_is_of_one}
use Rattle.cq_plan.proofs.Asked.{or-of-one}
use Rattle.cq_plan.proofs.EachOwn.{each-chain, each-or}
use Rattle.cq_plan.proofs.each_own.+each_is_own.Goals as goal

pub returns-then-not-each_is_own : goal.returns-then-not-each_is_own
returns-then-not-each_is_own t c =
    first-fails (λ t. each_is_of_one c.args.sources.now (cond_of t)) c.args.tree.now c.in-And.part.value c.deref.result.now c.in-And.rest.items c.deref.ensures
    (each-chain c.args.sources.now c.args.tree.now c.in-And.part c.in-And.rest c.in-And.is) (search (rules, tests))

pub loop-part-init : goal.loop-part-init
loop-part-init t c =
    others-all-pass (λ t. each_is_of_one c.args.sources.now (cond_of t)) c.args.tree.now c.in-And.part.value c.deref.result.now c.in-And.rest.items c.deref.ensures
    (each-chain c.args.sources.now c.args.tree.now c.in-And.part c.in-And.rest c.in-And.is) c.deref-part-items.result.now c.deref-part-items.ensures.value (search (rules, tests))

pub returns-then-is_empty : goal.returns-then-is_empty
returns-then-is_empty t c =
    c.each_is_own-then-is_empty.ensures
    ∙ ap (each_is_of_one c.args.sources.now) (or-of-one 0 0 c.args.tree.now c.in-Or.part c.in-Or.rest c.deref-then-is_empty.result.now c.in-Or.is c.deref-then-is_empty.ensures c.if-is_empty.ensures)

pub returns-else-is_empty : goal.returns-else-is_empty
returns-else-is_empty t c =
    c.is_own_of_one.ensures ∙ each-or c.args.sources.now c.args.tree.now c.in-Or.part c.in-Or.rest c.in-Or.is c.if-is_empty.ensures
