use Rattle.std.proofs.Common.{rules, drop, map}
use Rattle.cq_values.specs.Lent.{owned}
use Rattle.cq_values.specs.Comparison.{compared}
use Rattle.cq_model.specs.Eval.{eval}
use Rattle.cq_model.specs.Exact.{IsExactAt}
use Rattle.cq_model.specs.Trees.{expr_of}
use Rattle.cq_values.specs.declared.comparison.Comparison.TheVariants.{Equal}
use Rattle.cq_model_eval.specs.Choices.{equals_one}
use Rattle.cq_model_eval.proofs.Conditions.{at-place, true-found}
use Rattle.cq_model_eval.proofs.truth.is_in.Goals as goal

pub eval_tree-requires : goal.eval_tree-requires
eval_tree-requires c =
    at-place (λ e. IsExactAt e c.args.row.now) expr_of c.args.choices.now c.loop-choice.choice-index c.choice-item.result c.choice-item.result c.loop-choice-test.true c.choice-item.is c.requires

pub returns-then-eq : goal.returns-then-eq
returns-then-eq c =
    true-found c.loop-choice.truth (equals_one (owned c.args.value.now) (map expr_of c.args.choices.now) c.args.row.now)
    (map (λ t. compared Equal (owned c.args.value.now) (eval (expr_of t) c.args.row.now)) (drop c.loop-choice.choice-index c.args.choices.now)) (search rules) c.loop-choice.invariant
