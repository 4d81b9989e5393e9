use Rattle.std.proofs.Common.{◌≡◌, length, take}
use Rattle.cq_segments_pieces.specs.Pieces.{joined}
use Rattle.cq_table.proofs.moving.count_rows.Given as goal

-- the rows of the segments so far
abbrev pub invariant-loop-segment : goal.invariant-loop-segment
invariant-loop-segment l = l.count ≡ length (joined (take l.segment-index l.segments))
