use Rattle.std.proofs.Common.{◌≡◌, take}
use Rattle.cq_segments_pieces.specs.Columns.{rows_of_columns}
use Rattle.cq_vectors.specs.Batch.{row_at}
use Rattle.cq_writestore_rows.specs.TypedColumn.{values_in}
use Rattle.cq_writestore_rows.proofs.filling.rows_in.Given as goal

-- the rows so far
abbrev pub invariant-loop-place : goal.invariant-loop-place
invariant-loop-place l = l.rows.items ≡ rows_of_columns (values_in l.columns) l.place

-- the values of the row so far
abbrev pub invariant-loop-column : goal.invariant-loop-column
invariant-loop-column l = l.row ≡ row_at (values_in (take l.column-index l.columns)) l.place
