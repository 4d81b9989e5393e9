use Rattle.std.proofs.Common.{drop, length, ◌≤◌}
use Rattle.cq_prims_like.specs.Patterns.{StandIn}
use Rattle.cq_prims_like.proofs.pieces.stand_in.Given as goal

-- the pieces stand in the text just where those that are left stand in the rest
abbrev pub invariant-loop-piece : goal.invariant-loop-piece
invariant-loop-piece l = record {
  given : StandIn (drop l.piece-index l.pieces) l.rest → StandIn l.pieces l.text;
  taken : StandIn l.pieces l.text → StandIn (drop l.piece-index l.pieces) l.rest;
  short : length l.rest ≤ length l.text;
}
