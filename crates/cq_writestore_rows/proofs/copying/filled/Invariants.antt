use Rattle.std.proofs.Common.{take}
use Rattle.cq_segments_pieces.specs.Rows.{stored_rows}
use Rattle.cq_writestore_rows.specs.Filling.{Adds}
use Rattle.cq_writestore_rows.proofs.copying.filled.Given as goal

-- the rows so far are there
abbrev pub invariant-loop-row : goal.invariant-loop-row
invariant-loop-row l = Adds (take l.row-index (stored_rows l.rows)) l.initial.filling l.filling
