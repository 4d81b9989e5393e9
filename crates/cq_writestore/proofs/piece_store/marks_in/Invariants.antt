use Rattle.std.proofs.Common.{◌≡◌, take}
use Rattle.cq_segments_pieces.specs.Marked.{marked_count}
use Rattle.cq_segments_pieces.specs.Pieces.{joined}
use Rattle.cq_writestore.proofs.piece_store.marks_in.Given as goal

-- the marks so far are counted
abbrev pub invariant-loop-piece : goal.invariant-loop-piece
invariant-loop-piece l = l.count ≡ marked_count (joined (take l.piece-index l.pieces))
