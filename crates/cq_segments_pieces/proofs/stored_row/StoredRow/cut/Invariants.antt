use Rattle.std.proofs.Common.{◌≡◌, take}
use Rattle.cq_segments_pieces.specs.Rows.{row_of}
use Rattle.cq_model.specs.Group.{key_of}
use Rattle.cq_segments_pieces.proofs.stored_row.StoredRow.cut.Given as goal

-- the columns so far are cut
abbrev pub invariant-loop-column : goal.invariant-loop-column
invariant-loop-column l = l.cut ≡ key_of (take l.column-index l.columns) (row_of l.self)
