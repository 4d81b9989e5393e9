use Rattle.std.proofs.Common.{rules, tests}
use Rattle.cq_model.specs.Trees.{cond_of}
use Rattle.cq_model_terms.specs.Reads.{only_reads_in}
use Rattle.cq_model_terms.proofs.Trees.{first-fails, others-all-pass, read-parts}
use Rattle.cq_model_terms.proofs.exact.+only_reads_in.Goals as goal

pub returns-then-not-only_reads_in : goal.returns-then-not-only_reads_in
returns-then-not-only_reads_in t c =
    first-fails (λ t. only_reads_in (cond_of t)) c.args.tree.now c.in-And.first.value c.deref-in-And.result.now c.in-And.rest.items c.deref-in-And.ensures
    (read-parts c.args.tree.now c.in-And.first c.in-And.rest c.in-And.is) (search (rules, tests))

pub loop-part-init : goal.loop-part-init
loop-part-init t c =
    others-all-pass (λ t. only_reads_in (cond_of t)) c.args.tree.now c.in-And.first.value c.deref-in-And.result.now c.in-And.rest.items c.deref-in-And.ensures
    (read-parts c.args.tree.now c.in-And.first c.in-And.rest c.in-And.is) c.deref-part-items.result.now c.deref-part-items.ensures.value (search (rules, tests))
