use Rattle.std.proofs.Common.{◌≤◌, ◌-◌, length}
use Rattle.cq_table.specs.Reached.{IsReached}
use Rattle.cq_table.proofs.placing.reach.Given as goal

-- the segments so far lie before the place
abbrev pub invariant-loop-reached : goal.invariant-loop-reached
invariant-loop-reached l = record {
  reached : IsReached l.segments l.reached;
  behind : l.reached.before ≤ l.place;
}

abbrev pub decreases-loop-reached : goal.decreases-loop-reached
decreases-loop-reached l = length l.segments - l.reached.segment
