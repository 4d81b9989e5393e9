use Rattle.std.proofs.Common.{◌≡◌, ◌≤◌, ◌+◌, ◌-◌, length, map, take}
use Rattle.std.specs.Vec.{vec_capacity, vec_len}
use Rattle.cq_values.specs.Lent.{owned}
use Rattle.cq_vectors.specs.Gathered.{column_of}
use Rattle.cq_segments_pieces.specs.Rows.{stored_rows}
use Rattle.cq_segments_pieces.proofs.lending.lend_column.Given as goal

-- the values so far, and there is room for the rest
abbrev pub invariant-loop-row : goal.invariant-loop-row
invariant-loop-row l = record {
  values : map owned l.lent.items ≡ column_of (stored_rows (take l.row-index l.rows)) l.column;
  room : vec_len l.lent + (length l.rows - l.row-index) ≤ vec_capacity l.lent;
}
