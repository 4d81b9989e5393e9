use Rattle.std.proofs.Common.{◌≡◌, take}
use Rattle.cq_segments_pieces.specs.Rows.{stored_rows}
use Rattle.cq_table_columns.proofs.front.lend_columns.Given as goal

-- the rows so far are lent
abbrev pub invariant-loop-place : goal.invariant-loop-place
invariant-loop-place l = stored_rows l.lent.items ≡ take l.place l.columns
