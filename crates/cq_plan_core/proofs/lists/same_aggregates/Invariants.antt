use Rattle.cq_model_core.specs.Same.{same_aggregate}
use Rattle.cq_plan_core.proofs.Parts.{Rest}
use Rattle.cq_plan_core.proofs.lists.same_aggregates.Given as goal

-- whether the lists are one is left to the parts that are left
abbrev pub invariant-loop-place : goal.invariant-loop-place
invariant-loop-place l = Rest same_aggregate l.a l.b l.place
