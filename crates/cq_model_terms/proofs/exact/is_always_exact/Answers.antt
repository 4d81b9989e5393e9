use Rattle.std.proofs.Common.{◌∙◌, sym}
use Rattle.std.proofs.lemmas.Bool.{OnTrue_from}
use Rattle.cq_model.specs.Exact.{AreExactIn}
use Rattle.cq_model.specs.Trees.{cond_of}
use Rattle.cq_values.specs.Value.{Row}
use Rattle.cq_model_terms.proofs.AlwaysExact.{exact-condition}
use Rattle.cq_model_terms.proofs.exact.is_always_exact.Goals as goal

pub returns : goal.returns
returns c =
    OnTrue_from c.only_reads_in.result ((row : Row) → AreExactIn (cond_of c.args.tree.now) row) (λ t row. exact-condition (cond_of c.args.tree.now) row (sym c.only_reads_in.ensures ∙ t))
