use Rattle.std.proofs.Common.{length, take, ◌≡◌}
use Rattle.cq_segments_pieces.specs.Pieces.{joined}
use Rattle.cq_segments.proofs.segment.Segment.of_pieces.Given as goal

-- the rows of the pieces so far
abbrev pub invariant-loop-piece : goal.invariant-loop-piece
invariant-loop-piece l = l.len ≡ length (joined (take l.piece-index l.pieces))
