use Rattle.std.proofs.Common.{rules, tests}
use Rattle.cq_model.specs.Trees.{cond_of}
use Rattle.cq_model_terms.specs.Reads.{reads_in}
use Rattle.cq_model_terms.proofs.Trees.{first-passes, others-pass, reads_in-parts}
use Rattle.cq_model_terms.proofs.reading.+reads_in.Goals as goal

pub returns-then-reads_in : goal.returns-then-reads_in
returns-then-reads_in t c =
    first-passes (λ t. reads_in c.args.place (cond_of t)) c.args.tree.now c.in-And.first.value c.deref-in-And.result.now c.in-And.rest.items c.deref-in-And.ensures
    (reads_in-parts c.args.place c.args.tree.now c.in-And.first c.in-And.rest c.in-And.is) (search (rules, tests))

pub loop-part-init : goal.loop-part-init
loop-part-init t c =
    others-pass (λ t. reads_in c.args.place (cond_of t)) c.args.tree.now c.in-And.first.value c.deref-in-And.result.now c.in-And.rest.items c.deref-in-And.ensures
    (reads_in-parts c.args.place c.args.tree.now c.in-And.first c.in-And.rest c.in-And.is) c.deref-part-items.result.now c.deref-part-items.ensures.value (search (rules, tests))
