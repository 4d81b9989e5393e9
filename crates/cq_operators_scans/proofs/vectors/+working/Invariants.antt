use Rattle.std.proofs.Common.{drop}
use Rattle.cq_model.specs.Expr.{Plus, Times}
use Rattle.cq_model.specs.Trees.{expr_of}
use Rattle.cq_operators_scans.specs.Operand.{values_worked}
use Rattle.cq_operators_scans.proofs.Valuing.{Valuing}
use Rattle.cq_operators_scans.proofs.vectors.+working.Given as goal

-- what is left completes the sum
abbrev pub invariant-operation_worked_out-loop-term : goal.invariant-operation_worked_out-loop-term
invariant-operation_worked_out-loop-term l = Valuing Plus l.scan (drop l.term-index l.term-items) (values_worked l.scan l.sum) (expr_of l.tree)

-- what is left completes the product
abbrev pub invariant-operation_worked_out-loop-factor : goal.invariant-operation_worked_out-loop-factor
invariant-operation_worked_out-loop-factor l = Valuing Times l.scan (drop l.factor-index l.factor-items) (values_worked l.scan l.product) (expr_of l.tree)
