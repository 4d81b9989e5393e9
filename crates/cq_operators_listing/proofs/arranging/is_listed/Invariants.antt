use Rattle.std.specs.List.{AllAdjacentBelow}
use Rattle.cq_operators_listing.specs.InOrder.{StandsBehind}
use Rattle.cq_operators_listing.proofs.arranging.is_listed.Given as goal

-- each row so far stands in order with the one in front of it
abbrev pub invariant-loop-place : goal.invariant-loop-place
invariant-loop-place l = AllAdjacentBelow (StandsBehind l.keys) l.rows l.place
