use Rattle.std.proofs.Common.{map}
use Rattle.cq_model.specs.Trees.{expr_of}
use Rattle.cq_model_core.specs.Same.{same_expr}
use Rattle.cq_plan_core.specs.Prefixes.{node, prefix_of}
use Rattle.cq_plan_core.proofs.Chains.{Left}
use Rattle.cq_plan_core.proofs.exprs.+prefixes.Given as goal

-- whether the parts end the prefix is left to those in front
abbrev pub invariant-without-loop-place : goal.invariant-without-loop-place
invariant-without-loop-place l = Left same_expr (node l.sums) (map expr_of l.parts) (prefix_of l.prefix) l.place (prefix_of l.left)
