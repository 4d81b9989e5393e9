use Rattle.std.proofs.Common.{◌≡◌, take}
use Rattle.cq_segments_pieces.specs.Rows.{stored_rows}
use Rattle.cq_writestore_rows.proofs.copying.copies.Given as goal

-- the rows so far are copied
abbrev pub invariant-loop-row : goal.invariant-loop-row
invariant-loop-row l = l.copies.items ≡ stored_rows (take l.row-index l.rows)
