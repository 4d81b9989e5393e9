use Rattle.std.proofs.Common.{drop}
use Rattle.cq_values.specs.Truth.{or_truth}
use Rattle.cq_model.specs.Trees.{expr_of}
use Rattle.cq_operators_scans.proofs.Deciding.{Deciding, choice_equals, one_equals}
use Rattle.cq_operators_scans.proofs.truths.one_of_in.Given as goal

-- the choices that are left complete the truth in each row
abbrev pub invariant-loop-choice : goal.invariant-loop-choice
invariant-loop-choice l = Deciding or_truth (choice_equals (expr_of l.expr)) l.scan (drop l.choice-index l.choices) l.truths (one_equals (expr_of l.expr) l.choices)
