use Rattle.cq_engine_queue.proofs.Ways.{IsGone, Placed}
use Rattle.cq_engine_queue.proofs.taking.take_all_on.Given as goal

-- the views so far are where they were to go, and the others where they were
abbrev pub invariant-loop-place : goal.invariant-loop-place
invariant-loop-place l = Placed (IsGone l.goal l.now l.queue l.place) 0 l.initial.views.items l.views.items
