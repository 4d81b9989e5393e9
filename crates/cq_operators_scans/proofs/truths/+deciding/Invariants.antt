use Rattle.std.proofs.Common.{drop}
use Rattle.cq_values.specs.Truth.{and_truth, or_truth}
use Rattle.cq_model.specs.Condition.{holds}
use Rattle.cq_model.specs.Trees.{cond_of}
use Rattle.cq_operators_scans.proofs.Deciding.{Deciding, part_holds}
use Rattle.cq_operators_scans.proofs.truths.+deciding.Given as goal

-- the parts that are left complete the truth in each row
abbrev pub invariant-connective_in-loop-part : goal.invariant-connective_in-loop-part
invariant-connective_in-loop-part l = Deciding and_truth part_holds l.scan (drop l.part-index l.part-items) l.truths (holds (cond_of l.tree))

-- the choices that are left complete the truth in each row
abbrev pub invariant-connective_in-loop-choice : goal.invariant-connective_in-loop-choice
invariant-connective_in-loop-choice l = Deciding or_truth part_holds l.scan (drop l.choice-index l.choice-items) l.truths (holds (cond_of l.tree))
