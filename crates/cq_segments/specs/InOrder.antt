-- Rows in the order in which they stand in a segment.
use Rattle.std.specs.Prelude.{List}
use Rattle.cq_values.specs.Value.{Row}
use Rattle.cq_segments_pieces.specs.Marked.{rows_of}
use Rattle.cq_segments_pieces.specs.Pieces.{joined}
use Rattle.cq_segments_pieces.specs.Rows.{stored_rows}
use Rattle.cq_segments.specs.declared.in_order.InOrder.{InOrder}
use Rattle.cq_segments.specs.declared.in_order.InOrder.TheVariants as order

-- the rows
abbrev pub rows_in_order : InOrder → List Row
rows_in_order (order.Rows rows) = stored_rows rows.items
rows_in_order (order.Pieces pieces) = rows_of (joined pieces.now)
