-- A table as it is stored: rows in segments and in a write store, and the bag of those without a mark.
use Rattle.std.specs.Prelude.{◌≡◌, ◌<◌, ◌≤◌, ◌^◌, ℕ, List, [], ◌++◌, length, take}
use Rattle.std.specs.List.{AllByRecursion}
use Rattle.cq_values.specs.declared.column.ColumnDef.{ColumnDef}
use Rattle.cq_values.specs.Value.{Row}
use Rattle.cq_model_bags.specs.Canonical.{bag_of}
use Rattle.cq_model_state.specs.Fitting.{FitsColumns}
use Rattle.cq_segments_pieces.specs.Columns.{AreWide}
use Rattle.cq_segments_pieces.specs.Marked.{MarkedRow, live, marked_count, rows_of}
use Rattle.cq_segments_pieces.specs.Pieces.{joined}
use Rattle.cq_writestore.specs.Writes.{written_rows}
use Rattle.cq_writestore.specs.declared.written.Written.{Written}
use Rattle.cq_table_columns.specs.Stored.{stored_marked}
use Rattle.cq_table_columns.specs.declared.stored.Stored.{Stored}
use Rattle.cq_table.specs.declared.table.Layout.{Layout}

-- a table: the columns that its segments are sorted by, how many live rows it may have, and its stored rows
pub record StoredTable : Type 0 where
  pub columns : List ColumnDef
  pub sort : List ℕ
  pub max_rows : ℕ
  pub segments : List (List MarkedRow)
  pub written : List MarkedRow

-- the table that a layout, a limit of its rows and its stored rows make
abbrev pub table_of : Layout → ℕ → List (List MarkedRow) → List MarkedRow → StoredTable
table_of layout max_rows segments written =
    record { columns = layout.columns; sort = layout.sort; max_rows = max_rows; segments = segments; written = written }

-- all stored rows: those of the segments, one behind the other, and then those of the write store
abbrev pub stored_in : StoredTable → List MarkedRow
stored_in t = joined t.segments ++ t.written

-- all stored rows of lent segments, and behind them those of a lent write store
abbrev pub lent_stored : List (List MarkedRow) → Written → List MarkedRow
lent_stored segments written = joined segments ++ written_rows written

-- the live ones among the first rows of a source
abbrev pub live_front : ℕ → Stored → List Row
live_front count rows = live (take count (stored_marked rows))

-- the live rows, where they are stored
abbrev pub live_rows : StoredTable → List Row
live_rows t = live (stored_in t)

-- the one list that stands for the bag of a table
abbrev pub table_rows : StoredTable → List Row
table_rows t = bag_of (live_rows t)

-- how many rows the write store has, those with a mark too
abbrev pub write_len : StoredTable → ℕ
write_len t = length t.written

-- how many rows of the segments have a mark
abbrev pub marked_len : StoredTable → ℕ
marked_len t = marked_count (joined t.segments)

-- the rows fit the columns, and are no more than there may be
pub record AreSound (columns : List ColumnDef) (max_rows : ℕ) (rows : List Row) : Type 0 where
  pub fitting : AllByRecursion (FitsColumns columns) rows
  pub limited : length rows ≤ max_rows

-- so are the rows of a table
abbrev pub IsSound : StoredTable → Type 0
IsSound t = AreSound t.columns t.max_rows (table_rows t)

-- its live rows are sound and so many, those of its segments can be counted, and those of its write store are wide enough
pub record IsKept (t : StoredTable) (live : ℕ) : Type 0 where
  pub sound : AreSound t.columns t.max_rows (live_rows t)
  pub counted : live ≡ length (live_rows t)
  pub few : length (joined t.segments) < 2 ^ 63
  pub wide : AreWide (length t.columns) (rows_of t.written)

-- a new table
abbrev pub without_rows : List ColumnDef → List ℕ → ℕ → StoredTable
without_rows columns sort max_rows = record { columns = columns; sort = sort; max_rows = max_rows; segments = []; written = [] }

-- the table with these segments and this write store in place of its own
abbrev pub with_stored : List (List MarkedRow) → List MarkedRow → StoredTable → StoredTable
with_stored segments written t = record { columns = t.columns; sort = t.sort; max_rows = t.max_rows; segments = segments; written = written }

-- the table with another limit of its rows
abbrev pub limited_to : ℕ → StoredTable → StoredTable
limited_to max_rows t = record { columns = t.columns; sort = t.sort; max_rows = max_rows; segments = t.segments; written = t.written }

-- the rows are the same, whatever their order
abbrev pub SameRows : List Row → List Row → Type 0
SameRows rows others = bag_of rows ≡ bag_of others
