-- A write store: its rows with their marks, and how many more there is room for.
use Rattle.std.specs.Prelude.{◌<◌, ◌≤◌, ◌+◌, ◌^◌, ◌++◌, ℕ, Bool, List, drop, length, take}
use Rattle.cq_segments_pieces.specs.Marked.{MarkedRow, rows_of, with_flags}
use Rattle.cq_segments_pieces.specs.Pieces.{joined}
use Rattle.cq_writestore.specs.declared.tail.Tail.{Tail}
use Rattle.cq_writestore.specs.declared.written.Written.{Written}

-- rows in order of insertion, and the room that is left
pub record Writes : Type 0 where
  pub rows : List MarkedRow
  pub room : ℕ

-- there is room for so many rows behind a tail, and all of them can be counted
pub record HasRoom (held : List MarkedRow) (tail : Writes) (room : ℕ) : Type 0 where
  pub fits : room ≤ tail.room
  pub small : length held + length tail.rows + room < 2 ^ 63

-- the rows of a tail, each with its mark
abbrev pub tail_rows : Tail → List MarkedRow
tail_rows tail = with_flags tail.rows.now tail.marks.now

-- all rows that are lent: those of the pieces, and then those of the tail
abbrev pub written_rows : Written → List MarkedRow
written_rows written = joined written.pieces.now ++ tail_rows written.tail

-- fewer are left than there were, unless there were none
abbrev pub FewerLeft : {A : Type 0} → List A → List A → Type 0
FewerLeft all rest = 0 < length all → length rest < length all

-- rows with a mark for each flag that is set, behind so many that stay as they are
abbrev pub with_flags_behind : ℕ → List Bool → List MarkedRow → List MarkedRow
with_flags_behind held flags stored = take held stored ++ with_flags (rows_of (drop held stored)) flags
