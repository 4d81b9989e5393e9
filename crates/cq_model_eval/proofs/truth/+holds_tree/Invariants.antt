use Rattle.std.proofs.Common.{◌≡◌, drop, map, fold}
use Rattle.cq_values.specs.Truth.{and_truth, or_truth}
use Rattle.cq_model.specs.Condition.{holds}
use Rattle.cq_model.specs.Trees.{cond_of}
use Rattle.cq_model_eval.proofs.truth.+holds_tree.Given as goal

-- the parts that are left complete the truth
abbrev pub invariant-loop-part : goal.invariant-loop-part
invariant-loop-part l = fold and_truth l.truth (map (λ t. holds (cond_of t) l.row) (drop l.part-index l.part-items)) ≡ holds (cond_of l.tree) l.row

-- the choices that are left complete the truth
abbrev pub invariant-loop-choice : goal.invariant-loop-choice
invariant-loop-choice l = fold or_truth l.truth (map (λ t. holds (cond_of t) l.row) (drop l.choice-index l.choice-items)) ≡ holds (cond_of l.tree) l.row
