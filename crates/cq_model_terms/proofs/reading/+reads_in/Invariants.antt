use Rattle.std.proofs.Common.{◌≡◌, drop}
use Rattle.std.specs.List.{list_any}
use Rattle.cq_model.specs.Trees.{cond_of}
use Rattle.cq_model_terms.specs.Reads.{reads_in}
use Rattle.cq_model_terms.proofs.reading.+reads_in.Given as goal

-- whether the condition reads the column is left to the parts that are left
abbrev pub invariant-loop-part : goal.invariant-loop-part
invariant-loop-part l = list_any (λ t. reads_in l.place (cond_of t)) (drop l.part-index l.part-items) ≡ reads_in l.place (cond_of l.tree)
