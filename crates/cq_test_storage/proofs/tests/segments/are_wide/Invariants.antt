use Rattle.std.proofs.Common.{take}
use Rattle.cq_segments_pieces.specs.Columns.{AreWide}
use Rattle.cq_test_storage.proofs.tests.segments.are_wide.Given as goal

-- the rows so far are as wide
abbrev pub invariant-loop-row : goal.invariant-loop-row
invariant-loop-row l = AreWide l.width (take l.row-index l.rows)
