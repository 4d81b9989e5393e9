use Rattle.std.proofs.Common.{◌≡◌, drop, map, fold}
use Rattle.cq_values.specs.Lent.{owned}
use Rattle.cq_values.specs.Truth.{or_truth}
use Rattle.cq_values.specs.Comparison.{compared}
use Rattle.cq_model.specs.Eval.{eval}
use Rattle.cq_model.specs.Trees.{expr_of}
use Rattle.cq_values.specs.declared.comparison.Comparison.TheVariants.{Equal}
use Rattle.cq_model_eval.specs.Choices.{equals_one}
use Rattle.cq_model_eval.proofs.truth.is_in.Given as goal

-- the choices that are left complete the truth
abbrev pub invariant-loop-choice : goal.invariant-loop-choice
invariant-loop-choice l =
    fold or_truth l.truth (map (λ t. compared Equal (owned l.value) (eval (expr_of t) l.row)) (drop l.choice-index l.choices)) ≡ equals_one (owned l.value) (map expr_of l.choices) l.row
