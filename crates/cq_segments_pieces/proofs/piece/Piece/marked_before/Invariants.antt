use Rattle.std.proofs.Common.{◌≡◌, ◌≤◌, take}
use Rattle.cq_segments_pieces.specs.Marked.{marked_count}
use Rattle.cq_segments_pieces.proofs.piece.Piece.marked_before.Given as goal

-- the marks so far are counted
abbrev pub invariant-loop-place : goal.invariant-loop-place
invariant-loop-place l = (l.marked ≡ marked_count (take l.place l.self)) × (l.marked ≤ l.place)
