use Rattle.std.proofs.Common.{map}
use Rattle.cq_model.specs.Trees.{expr_of}
use Rattle.cq_model_core.specs.Same.{same_expr}
use Rattle.cq_plan_core.proofs.Parts.{Rest}
use Rattle.cq_plan_core.proofs.lists.same_exprs.Given as goal

-- whether the lists are one is left to the parts that are left
abbrev pub invariant-loop-place : goal.invariant-loop-place
invariant-loop-place l = Rest same_expr (map expr_of l.a) (map expr_of l.b) l.place
