use Rattle.std.proofs.Common.{◌≡◌, ◌++◌, drop, take}
use Rattle.cq_segments_pieces.specs.Marked.{rows_of}
use Rattle.cq_segments_pieces.specs.Pieces.{joined}
use Rattle.cq_writestore_rows.proofs.new_rows.NewRows.copies.Given as goal

-- the rows of the pieces so far, and those of this one before the place
abbrev pub invariant-loop-place : goal.invariant-loop-place
invariant-loop-place l = l.rows.items ≡ rows_of (joined (take l.piece-index l.piece-items)) ++ take l.place l.columns

-- the rows of the pieces so far
abbrev pub invariant-loop-piece : goal.invariant-loop-piece
invariant-loop-piece l = l.rows.items ≡ rows_of (joined (take l.piece-index l.piece-items))

-- with the rows that are left they are all
abbrev pub invariant-loop-row : goal.invariant-loop-row
invariant-loop-row l = l.rows.items ++ drop l.row-index l.row-items ≡ l.self
