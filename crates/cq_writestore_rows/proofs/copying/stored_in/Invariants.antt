use Rattle.std.proofs.Common.{◌≡◌, take}
use Rattle.cq_segments_pieces.specs.Rows.{stored_rows}
use Rattle.cq_writestore_rows.proofs.copying.stored_in.Given as goal

-- the rows so far
abbrev pub invariant-loop-row : goal.invariant-loop-row
invariant-loop-row l = stored_rows l.stored.items ≡ take l.row-index l.rows
