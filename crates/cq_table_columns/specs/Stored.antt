-- Rows where they are stored.
use Rattle.std.specs.Prelude.{◌≡◌, ◌++◌, ℕ, List, []}
use Rattle.cq_values.specs.Value.{Row}
use Rattle.cq_encodings_vectors.specs.Places.{rows_at}
use Rattle.cq_segments_pieces.specs.Marked.{MarkedRow, live, rows_of, unmarked}
use Rattle.cq_segments_pieces.specs.Pieces.{joined}
use Rattle.cq_writestore.specs.Writes.{tail_rows, written_rows}
use Rattle.cq_table_columns.specs.declared.front.Front.{Front}
use Rattle.cq_table_columns.specs.declared.front.Front.TheVariants as front
use Rattle.cq_table_columns.specs.declared.stored.Stored.{Stored}

-- the rows at a front, deleted or not
abbrev pub marked_rows : Front → List MarkedRow
marked_rows (front.Rows rows) = unmarked rows.now
marked_rows (front.Columns columns) = unmarked columns.now
marked_rows (front.Marked piece) = piece.now
marked_rows (front.Written written) = tail_rows written.written

-- those that are not
abbrev pub front_rows : Front → List Row
front_rows (front.Rows rows) = rows.now
front_rows (front.Columns columns) = columns.now
front_rows (front.Marked piece) = live piece.now
front_rows (front.Written written) = live (tail_rows written.written)

-- the live rows at these places of a front stand at those others among all that stand there
abbrev pub StandAt : Front → List ℕ → List ℕ → Type 0
StandAt front live_places places = rows_at (rows_of (marked_rows front)) places ≡ rows_at (front_rows front) live_places

-- all rows of a source, deleted or not: those of segments, and then those of the write store
abbrev pub stored_marked : Stored → List MarkedRow
stored_marked source = joined source.pieces.now ++ joined source.segments.now ++ written_rows source.written

-- those that are not
abbrev pub all_rows : Stored → List Row
all_rows source = live (stored_marked source)

-- all that is stored stands at the end of the write store
abbrev pub IsTail : Stored → Type 0
IsTail source = stored_marked source ≡ tail_rows source.written.tail

-- unless a piece comes first, all that is stored stands there
abbrev pub HasPieceOrTail : Stored → Type 0
HasPieceOrTail source = source.pieces.now ≡ [] → IsTail source
