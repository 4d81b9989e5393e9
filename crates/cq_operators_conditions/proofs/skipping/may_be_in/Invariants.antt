use Rattle.std.proofs.Common.{take}
use Rattle.cq_model.specs.Trees.{expr_of}
use Rattle.cq_operators_conditions.specs.Skipping.{bounded_rows}
use Rattle.cq_operators_conditions.proofs.Skipped.{NoneChosen}
use Rattle.cq_operators_conditions.proofs.skipping.may_be_in.Given as goal

-- the value is none of the choices so far in any row
abbrev pub invariant-loop-choice : goal.invariant-loop-choice
invariant-loop-choice l = NoneChosen l.before (bounded_rows l.rows) (expr_of l.expr) (take l.choice-index l.choices)
