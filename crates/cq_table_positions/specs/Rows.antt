-- Rows of a list, of a front, or at places of a front or of a segment.
use Rattle.std.specs.Prelude.{List}
use Rattle.cq_segments_pieces.specs.Rows.{stored_rows}
use Rattle.cq_values.specs.Value.{Row}
use Rattle.cq_table_columns.specs.Stored.{front_rows}
use Rattle.cq_table_positions.specs.declared.stored_rows.StoredRows.{StoredRows}
use Rattle.cq_table_positions.specs.declared.stored_rows.StoredRows.TheVariants as stored

-- the rows that are stored
abbrev pub rows_in : StoredRows → List Row
rows_in (stored.Listed list) = stored_rows list.items
rows_in (stored.Front front) = front_rows front
rows_in (stored.Chosen chosen) = chosen
rows_in (stored.Placed placed) = placed
