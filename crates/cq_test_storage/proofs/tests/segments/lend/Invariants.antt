use Rattle.std.proofs.Common.{◌≡◌, take}
use Rattle.cq_segments_pieces.specs.Rows.{stored_rows}
use Rattle.cq_test_storage.proofs.tests.segments.lend.Given as goal

-- the rows so far are lent
abbrev pub invariant-loop-row : goal.invariant-loop-row
invariant-loop-row l = stored_rows l.lent.items ≡ take l.row-index l.rows
