use Rattle.cq_test_plain.proofs.Agreeing.{AreStored}
use Rattle.cq_test_plain.proofs.answering.named_views.Given as goal

-- the views so far that are named have their rows here
abbrev pub invariant-loop-at : goal.invariant-loop-at
invariant-loop-at l = AreStored l.database.tables l.database.views l.query l.views.items l.at
