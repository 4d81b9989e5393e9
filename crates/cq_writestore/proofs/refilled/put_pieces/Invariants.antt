use Rattle.std.proofs.Common.{◌≡◌, ◌++◌}
use Rattle.cq_segments_pieces.specs.Marked.{rows_of}
use Rattle.cq_segments_pieces.specs.Pieces.{joined}
use Rattle.cq_writestore_rows.specs.Filling.{CanTake}
use Rattle.cq_writestore.proofs.refilled.put_pieces.Given as goal

-- with those of the pieces that are left the rows are all, and these can come next
abbrev pub invariant-loop-piece : goal.invariant-loop-piece
invariant-loop-piece l = record {
  rows : l.filling.rows ++ rows_of (joined l.piece-iterator.rest.items) ≡ l.initial.filling.rows ++ rows_of (joined l.fn.pieces.items);
  can : CanTake (rows_of (joined l.piece-iterator.rest.items)) l.filling;
  wide : l.filling.width ≡ l.initial.filling.width;
}
