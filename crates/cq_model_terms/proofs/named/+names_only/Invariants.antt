use Rattle.std.proofs.Common.{◌≡◌, drop}
use Rattle.std.specs.List.{list_all}
use Rattle.cq_model.specs.Own.{names_only}
use Rattle.cq_model.specs.Trees.{expr_of}
use Rattle.cq_model_terms.proofs.named.+names_only.Given as goal

-- whether the expression names these columns alone is left to the parts that are left
abbrev pub invariant-loop-part : goal.invariant-loop-part
invariant-loop-part l = list_all (λ t. names_only l.before l.wide (expr_of t)) (drop l.part-index l.part-items) ≡ names_only l.before l.wide (expr_of l.tree)
