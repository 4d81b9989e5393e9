use Rattle.cq_plan.specs.Chain.{HaveValues}
use Rattle.cq_test_queries.proofs.tests.queries.rows_of.Given as goal

-- each row so far has two values
abbrev pub invariant-loop-pair : goal.invariant-loop-pair
invariant-loop-pair l = HaveValues 2 l.rows.items
