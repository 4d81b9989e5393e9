use Rattle.std.proofs.Common.{map}
use Rattle.cq_model.specs.Trees.{cond_of}
use Rattle.cq_model_core.specs.Same.{same_cond}
use Rattle.cq_plan_core.specs.Joined.{node, prefix_of}
use Rattle.cq_plan_core.proofs.Chains.{Left}
use Rattle.cq_plan_core.proofs.conds.+prefixes.Given as goal

-- whether the parts end the prefix is left to those in front
abbrev pub invariant-without-loop-place : goal.invariant-without-loop-place
invariant-without-loop-place l = Left same_cond (node l.all) (map cond_of l.parts) (prefix_of l.prefix) l.place (prefix_of l.left)
