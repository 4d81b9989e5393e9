use Rattle.std.proofs.Common.{length, take, vec_capacity, vec_len, ◌++◌, ◌+◌, ◌-◌, ◌≡◌, ◌≤◌}
use Rattle.cq_segments_pieces.specs.Rows.{stored_rows}
use Rattle.cq_segments.proofs.in_order.lend_behind.Given as goal

-- the rows so far, and there is room for the rest
abbrev pub invariant-loop-place : goal.invariant-loop-place
invariant-loop-place l = record {
  rows : stored_rows l.rows.items ≡ stored_rows l.initial.rows.items ++ take l.place l.columns;
  room : vec_len l.rows + (length l.columns - l.place) ≤ vec_capacity l.rows;
}
