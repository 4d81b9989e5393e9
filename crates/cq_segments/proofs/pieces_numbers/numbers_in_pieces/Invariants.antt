use Rattle.std.proofs.Common.{take, ◌≡◌}
use Rattle.cq_encodings_plain.specs.Kind.{number_values}
use Rattle.cq_segments_pieces.specs.Marked.{rows_of}
use Rattle.cq_segments_pieces.specs.Pieces.{joined}
use Rattle.cq_vectors.specs.Gathered.{column_of}
use Rattle.cq_segments.proofs.pieces_numbers.numbers_in_pieces.Given as goal

-- the numbers of the pieces so far
abbrev pub invariant-loop-piece : goal.invariant-loop-piece
invariant-loop-piece l = number_values l.kind l.numbers.items ≡ column_of (rows_of (joined (take l.piece-index l.pieces))) l.column
