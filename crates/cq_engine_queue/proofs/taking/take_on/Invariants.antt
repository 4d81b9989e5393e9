use Rattle.std.proofs.Common.{◌-◌}
use Rattle.cq_engine_queue.specs.Counts.{CountsIn}
use Rattle.cq_engine_queue.specs.History.{IsTakenOn, StaysRight}
use Rattle.cq_engine_queue.proofs.taking.take_on.Given as goal

-- the view was taken on so far, is right where it was, and counted for the changes
abbrev pub invariant-loop-alloc : goal.invariant-loop-alloc
invariant-loop-alloc l = record {
  on : IsTakenOn l.to l.initial.view l.view;
  right : StaysRight l.queue l.initial.view l.view;
  counts : CountsIn l.queue l.initial.view l.view;
}

-- fewer changes are left
abbrev pub decreases-loop-alloc : goal.decreases-loop-alloc
decreases-loop-alloc l = l.to - l.view.kept.state.epoch
