use Rattle.cq_model_core.specs.Core.{same_join}
use Rattle.cq_plan_core.proofs.Parts.{Rest}
use Rattle.cq_plan_core.proofs.lists.same_joins.Given as goal

-- whether the lists are one is left to the parts that are left
abbrev pub invariant-loop-place : goal.invariant-loop-place
invariant-loop-place l = Rest same_join l.a l.b l.place
