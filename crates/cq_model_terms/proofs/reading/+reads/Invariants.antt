use Rattle.std.proofs.Common.{◌≡◌, drop}
use Rattle.std.specs.List.{list_any}
use Rattle.cq_model.specs.Trees.{expr_of}
use Rattle.cq_model_terms.specs.Reads.{reads}
use Rattle.cq_model_terms.proofs.reading.+reads.Given as goal

-- whether the expression reads the column is left to the parts that are left
abbrev pub invariant-loop-part : goal.invariant-loop-part
invariant-loop-part l = list_any (λ t. reads l.place (expr_of t)) (drop l.part-index l.part-items) ≡ reads l.place (expr_of l.tree)
