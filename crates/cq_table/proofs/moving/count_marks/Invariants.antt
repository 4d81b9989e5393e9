use Rattle.std.proofs.Common.{◌≡◌, take}
use Rattle.cq_segments_pieces.specs.Marked.{marked_count}
use Rattle.cq_segments_pieces.specs.Pieces.{joined}
use Rattle.cq_table.proofs.moving.count_marks.Given as goal

-- the marks of the segments so far
abbrev pub invariant-loop-segment : goal.invariant-loop-segment
invariant-loop-segment l = l.count ≡ marked_count (joined (take l.segment-index l.segments))
