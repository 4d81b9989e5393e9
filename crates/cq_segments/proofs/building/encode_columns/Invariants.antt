use Rattle.std.proofs.Common.{◌≡◌, length}
use Rattle.cq_segments_pieces.specs.Columns.{columns_in, columns_of}
use Rattle.cq_segments.specs.InOrder.{rows_in_order}
use Rattle.cq_segments.specs.Segment.{HaveBounds}
use Rattle.cq_segments.proofs.building.encode_columns.Given as goal

-- the columns so far are encoded, and each has its bounds
abbrev pub invariant-loop-column : goal.invariant-loop-column
invariant-loop-column l = record {
  values : columns_in l.encoded.items ≡ columns_of (rows_in_order l.rows) l.column;
  as_many : length l.bounds.items ≡ l.column;
  bounds : HaveBounds l.bounds.items (rows_in_order l.rows);
}
