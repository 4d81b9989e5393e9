use Rattle.std.proofs.Common.{◌≡◌, ◌≤◌, ◌+◌, ◌-◌, ◌++◌, length, take}
use Rattle.std.specs.Vec.{vec_capacity, vec_len}
use Rattle.cq_segments_pieces.specs.Pieces.{joined}
use Rattle.cq_segments_pieces.specs.Rows.{stored_rows}
use Rattle.cq_writestore.specs.Writes.{written_rows}
use Rattle.cq_table.specs.Found.{found_rows}
use Rattle.cq_table.specs.Reached.{IsReached}
use Rattle.cq_table.proofs.placing.rows_at.Given as goal

-- the rows at the places so far
abbrev pub invariant-loop-place : goal.invariant-loop-place
invariant-loop-place l = record {
  rows : stored_rows l.rows.items ≡ found_rows (joined l.segments ++ written_rows l.written) (take l.place-index l.places);
  room : vec_len l.rows + (length l.places - l.place-index) ≤ vec_capacity l.rows;
  reached : IsReached l.segments l.reached;
}
