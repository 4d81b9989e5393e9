use Rattle.std.proofs.Common.{drop}
use Rattle.cq_values.specs.Lent.{owned}
use Rattle.cq_model.specs.Expr.{Plus, Times}
use Rattle.cq_model.specs.Trees.{expr_of}
use Rattle.cq_model_eval.proofs.Chains.{Evaluating}
use Rattle.cq_model_eval.proofs.eval.+eval_tree.Given as goal

-- what is left completes the sum
abbrev pub invariant-loop-term : goal.invariant-loop-term
invariant-loop-term l = Evaluating Plus l.row (drop l.term-index l.term-items) (owned l.sum) (expr_of l.tree)

-- what is left completes the product
abbrev pub invariant-loop-factor : goal.invariant-loop-factor
invariant-loop-factor l = Evaluating Times l.row (drop l.factor-index l.factor-items) (owned l.product) (expr_of l.tree)
