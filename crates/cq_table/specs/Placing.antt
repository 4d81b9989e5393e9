-- Stored rows by their places: those of the segments, and behind them those of the write store.
use Rattle.std.specs.Prelude.{◌≡◌, ℕ, List, [], ◌++◌, slice_index_or}
use Rattle.std.specs.Global.{Vec}
use Rattle.cq_segments_pieces.specs.Rows.{stored_rows}
use Rattle.cq_segments_pieces.specs.declared.stored_row.StoredRow.{StoredRow}
use Rattle.cq_values.specs.Value.{Row}
use Rattle.cq_segments_pieces.specs.Marked.{MarkedRow, rows_of, with_mark, with_marks}
use Rattle.cq_segments_pieces.specs.Pieces.{joined}
use Rattle.cq_writestore.specs.Writes.{Writes}
use Rattle.cq_writestore.specs.declared.written.Written.{Written}
use Rattle.cq_table.specs.Found.{found_rows}
use Rattle.cq_table.specs.Table.{lent_stored}

-- all stored rows of segments, and behind them those of a write store
abbrev pub all_stored : Vec (List MarkedRow) → Writes → List MarkedRow
all_stored segments written = joined segments.items ++ written.rows

-- the row at a place has a mark, and the others are as they were
abbrev pub MarksRow : ℕ → Vec (List MarkedRow) → Writes → Vec (List MarkedRow) → Writes → Type 0
MarksRow place segments written new_segments new_written =
    all_stored new_segments new_written ≡ with_mark place (all_stored segments written)

-- so it is with the rows at these places
abbrev pub MarksRows : List ℕ → Vec (List MarkedRow) → Writes → Vec (List MarkedRow) → Writes → Type 0
MarksRows places segments written new_segments new_written =
    all_stored new_segments new_written ≡ with_marks places (all_stored segments written)

-- these are the rows at the places
abbrev pub AreRowsAt : List (List MarkedRow) → Written → List ℕ → List StoredRow → Type 0
AreRowsAt segments written places rows = stored_rows rows ≡ found_rows (lent_stored segments written) places

-- the row at a place, which has no value where there is none
abbrev pub row_stored_at : List (List MarkedRow) → Written → ℕ → Row
row_stored_at segments written place = slice_index_or (rows_of (lent_stored segments written)) place []
