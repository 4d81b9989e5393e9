use Rattle.std.proofs.Common.{take, ◌≡◌}
use Rattle.cq_segments_pieces.specs.Marked.{rows_of}
use Rattle.cq_segments_pieces.specs.Pieces.{joined}
use Rattle.cq_segments_pieces.specs.Rows.{stored_rows}
use Rattle.cq_segments.proofs.in_order.lend_pieces.Given as goal

-- the rows of the pieces so far
abbrev pub invariant-loop-piece : goal.invariant-loop-piece
invariant-loop-piece l = stored_rows l.rows.items ≡ rows_of (joined (take l.piece-index l.pieces))
