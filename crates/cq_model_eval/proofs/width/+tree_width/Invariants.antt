use Rattle.std.proofs.Common.{◌+◌, ◌*◌, drop}
use Rattle.cq_model.specs.Trees.{expr_of}
use Rattle.cq_model.specs.Width.{limits_of}
use Rattle.cq_model_eval.proofs.Widths.{Sizing}
use Rattle.cq_model_eval.proofs.width.+tree_width.Given as goal

-- what is left completes the sum's extent
abbrev pub invariant-loop-term : goal.invariant-loop-term
invariant-loop-term l = Sizing ◌+◌ (limits_of l.sizes) (drop l.term-index l.term-items) l.sum (expr_of l.tree)

-- what is left completes the product's extent
abbrev pub invariant-loop-factor : goal.invariant-loop-factor
invariant-loop-factor l = Sizing ◌*◌ (limits_of l.sizes) (drop l.factor-index l.factor-items) l.product (expr_of l.tree)
