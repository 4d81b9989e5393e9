use Rattle.cq_plan.proofs.Asked.{AskSoFar}
use Rattle.cq_plan.proofs.own.+add_own.Given as goal

-- the parts so far add own conditions alone, and they are asked
abbrev pub invariant-loop-part : goal.invariant-loop-part
invariant-loop-part l = AskSoFar l.before l.wide l.tree l.part-items l.part-index l.initial.own.items l.own.items
