use Rattle.std.proofs.Common.{◌≡◌, take}
use Rattle.cq_segments_pieces.specs.Rows.{stored_rows}
use Rattle.cq_vectors.specs.Gathered.{lent_rows}
use Rattle.cq_table_columns.proofs.gathering.lend_alone.Given as goal

-- the rows so far stand alone
abbrev pub invariant-loop-row : goal.invariant-loop-row
invariant-loop-row l = lent_rows l.lent.items ≡ stored_rows (take l.row-index l.rows)
