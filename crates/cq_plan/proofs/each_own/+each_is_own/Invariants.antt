use Rattle.std.proofs.Common.{◌≡◌, drop}
use Rattle.std.specs.List.{list_all}
use Rattle.cq_model.specs.Trees.{cond_of}
use Rattle.cq_plan.specs.EachOwn.{each_is_of_one}
use Rattle.cq_plan.proofs.each_own.+each_is_own.Given as goal

-- whether each part names one source is left to the parts that are left
abbrev pub invariant-loop-part : goal.invariant-loop-part
invariant-loop-part l = list_all (λ t. each_is_of_one l.sources (cond_of t)) (drop l.part-index l.part-items) ≡ each_is_of_one l.sources (cond_of l.tree)
