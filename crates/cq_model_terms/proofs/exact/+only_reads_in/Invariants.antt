use Rattle.std.proofs.Common.{◌≡◌, drop}
use Rattle.std.specs.List.{list_all}
use Rattle.cq_model.specs.Trees.{cond_of}
use Rattle.cq_model_terms.specs.Reads.{only_reads_in}
use Rattle.cq_model_terms.proofs.exact.+only_reads_in.Given as goal

-- whether the condition reads its expressions alone is left to the parts that are left
abbrev pub invariant-loop-part : goal.invariant-loop-part
invariant-loop-part l = list_all (λ t. only_reads_in (cond_of t)) (drop l.part-index l.part-items) ≡ only_reads_in (cond_of l.tree)
