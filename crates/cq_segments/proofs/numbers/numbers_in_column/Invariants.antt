use Rattle.std.proofs.Common.{◌≤◌, ◌+◌, ◌-◌, length, take, vec_capacity, vec_len}
use Rattle.cq_vectors.specs.Gathered.{column_of}
use Rattle.cq_segments.specs.Numbers.{AreNumbers}
use Rattle.cq_segments_pieces.specs.Rows.{stored_rows}
use Rattle.cq_segments.proofs.numbers.numbers_in_column.Given as goal

-- the numbers so far, and there is room for the rest
abbrev pub invariant-loop-row : goal.invariant-loop-row
invariant-loop-row l = record {
  are : AreNumbers l.kind l.numbers.items (column_of (stored_rows (take l.row-index l.rows)) l.column);
  room : vec_len l.numbers + (length l.rows - l.row-index) ≤ vec_capacity l.numbers;
}
