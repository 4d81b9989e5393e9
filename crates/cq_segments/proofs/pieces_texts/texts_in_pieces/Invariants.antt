use Rattle.std.proofs.Common.{take, ◌≡◌}
use Rattle.cq_encodings.specs.Texts.{text_values}
use Rattle.cq_segments_pieces.specs.Marked.{rows_of}
use Rattle.cq_segments_pieces.specs.Pieces.{joined}
use Rattle.cq_vectors.specs.Gathered.{column_of}
use Rattle.cq_vectors_stored.specs.Columns.{texts_of}
use Rattle.cq_segments.proofs.pieces_texts.texts_in_pieces.Given as goal

-- the texts of the pieces so far
abbrev pub invariant-loop-piece : goal.invariant-loop-piece
invariant-loop-piece l = text_values (texts_of l.texts.items) ≡ column_of (rows_of (joined (take l.piece-index l.pieces))) l.column
