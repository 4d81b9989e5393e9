use Rattle.std.proofs.Common.{rules, tests}
use Rattle.cq_model.specs.Trees.{expr_of}
use Rattle.cq_model_terms.specs.Reads.{reads}
use Rattle.cq_model_terms.proofs.Trees.{first-passes, others-pass, reads-chain}
use Rattle.cq_model_terms.proofs.reading.+reads.Goals as goal

pub returns-then-reads : goal.returns-then-reads
returns-then-reads t c =
    first-passes (λ t. reads c.args.place (expr_of t)) c.args.tree.now c.in-Sum.first.value c.deref-in-Sum.result.now c.in-Sum.rest.items c.deref-in-Sum.ensures
    (reads-chain c.args.place c.args.tree.now c.in-Sum.first c.in-Sum.rest c.in-Sum.is) (search (rules, tests))

pub loop-part-init : goal.loop-part-init
loop-part-init t c =
    others-pass (λ t. reads c.args.place (expr_of t)) c.args.tree.now c.in-Sum.first.value c.deref-in-Sum.result.now c.in-Sum.rest.items c.deref-in-Sum.ensures
    (reads-chain c.args.place c.args.tree.now c.in-Sum.first c.in-Sum.rest c.in-Sum.is) c.deref-part-items.result.now c.deref-part-items.ensures.value (search (rules, tests))
