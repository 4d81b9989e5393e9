use Rattle.std.proofs.Common.{◌≡◌, take}
use Rattle.cq_segments_pieces.specs.Rows.{row_of}
use Rattle.cq_segments_pieces.proofs.stored_row.StoredRow.copy_values.Given as goal

-- the values so far are copied
abbrev pub invariant-loop-column : goal.invariant-loop-column
invariant-loop-column l = l.row ≡ take l.column (row_of l.self)
