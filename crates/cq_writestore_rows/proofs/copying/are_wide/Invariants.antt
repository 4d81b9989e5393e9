use Rattle.std.proofs.Common.{take}
use Rattle.cq_segments_pieces.specs.Columns.{AreWide}
use Rattle.cq_segments_pieces.specs.Rows.{stored_rows}
use Rattle.cq_writestore_rows.proofs.copying.are_wide.Given as goal

-- the rows so far have so many values
abbrev pub invariant-loop-row : goal.invariant-loop-row
invariant-loop-row l = AreWide l.width (take l.row-index (stored_rows l.rows))
