use Rattle.cq_engine_answers.specs.AtHand.{AreAllColumns}
use Rattle.cq_engine_answers.proofs.at_hand.columns.Given as goal

-- the columns so far
abbrev pub invariant-loop-place : goal.invariant-loop-place
invariant-loop-place l = AreAllColumns l.place l.items
