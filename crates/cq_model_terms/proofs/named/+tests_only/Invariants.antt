use Rattle.std.proofs.Common.{◌≡◌, drop}
use Rattle.std.specs.List.{list_all}
use Rattle.cq_model.specs.Own.{tests_only}
use Rattle.cq_model.specs.Trees.{cond_of}
use Rattle.cq_model_terms.proofs.named.+tests_only.Given as goal

-- whether the condition names these columns alone is left to the parts that are left
abbrev pub invariant-loop-part : goal.invariant-loop-part
invariant-loop-part l = list_all (λ t. tests_only l.before l.wide (cond_of t)) (drop l.part-index l.part-items) ≡ tests_only l.before l.wide (cond_of l.tree)
