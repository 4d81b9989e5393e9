-- Rows where they stand.
use Rattle.std.specs.Prelude.{◌≡◌, List, [], map, slice_index_or}
use Rattle.std.specs.Borrow.{Bor}
use Rattle.cq_values.specs.Value.{Row}
use Rattle.cq_vectors.specs.Gathered.{lent_rows}
use Rattle.cq_segments_pieces.specs.declared.stored_row.StoredRow.{StoredRow}
use Rattle.cq_segments_pieces.specs.declared.stored_row.StoredRow.TheVariants as stored

-- the row that is stored: without values where the columns have no such place
abbrev pub row_of : StoredRow → Row
row_of (stored.Alone row) = row.now
row_of (stored.InColumns columns place) = slice_index_or columns.now place []

-- and those of each
abbrev pub stored_rows : List StoredRow → List Row
stored_rows rows = map row_of rows

-- rows that are lent are those that are stored
abbrev pub LendAll : List StoredRow → List (Bor Row) → Type 0
LendAll rows lent = lent_rows lent ≡ stored_rows rows
