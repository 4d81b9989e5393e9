use Rattle.cq_plan.specs.Chain.{HaveValues}
use Rattle.cq_test_queries.proofs.tests.plans.numbered.Given as goal

-- each row so far has two values
abbrev pub invariant-loop-place : goal.invariant-loop-place
invariant-loop-place l = HaveValues 2 l.rows.items
