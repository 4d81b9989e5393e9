-- What writes, moves and merges leave of a table.
use Rattle.std.specs.Prelude.{◌≡◌, ◌<◌, ◌+◌, ◌-◌, ℕ, List, [], ◌∷◌, ◌++◌, length, map, take, drop, Option}
use Rattle.cq_values.specs.Value.{Row}
use Rattle.cq_model_bags.specs.Canonical.{bag_of}
use Rattle.cq_model.specs.Expr.{Cond}
use Rattle.cq_model.specs.Write.{left_by, updated}
use Rattle.cq_model.specs.declared.assignment.Assignment.{Assignment}
use Rattle.cq_segments_pieces.specs.Marked.{MarkedRow, live, unmarked, with_marks}
use Rattle.cq_segments_pieces.specs.Pieces.{joined}
use Rattle.cq_segments.specs.Sorted.{IsBuilt}
use Rattle.cq_table.specs.Found.{IsFound}
use Rattle.cq_table.specs.Table.{StoredTable, marked_len, stored_in, table_rows, with_stored, write_len}

-- ---- Writes
-- rows were put behind those of the write store
abbrev pub with_written : List Row → StoredTable → StoredTable
with_written rows t = with_stored t.segments (t.written ++ unmarked rows) t

-- the rows at these places are marked where they stand, and these rows were put into the write store
pub record Exchanges (places : List ℕ) (rows : List Row) (old new : StoredTable) : Type 0 where
  pub is : new ≡ with_stored new.segments new.written old
  pub stored : stored_in new ≡ with_marks places (stored_in old) ++ unmarked rows
  pub segments : map length new.segments ≡ map length old.segments
  pub write_len : write_len new ≡ write_len old + length rows

-- the rows that WHERE keeps are marked where they stand, and nothing else is changed
pub record MarksOnly (condition : Option Cond) (old new : StoredTable) : Type 0 where
  pub places : List ℕ
  pub found : IsFound condition old places
  pub marked : Exchanges places [] old new

-- the bag has those rows alone that WHERE does not keep
abbrev pub Deletes : Option Cond → StoredTable → StoredTable → Type 0
Deletes condition old new = table_rows new ≡ bag_of (left_by condition (table_rows old))

-- the bag has the image of each row that WHERE keeps in its place
abbrev pub Updates : List Assignment → Option Cond → StoredTable → StoredTable → Type 0
Updates assignments condition old new = table_rows new ≡ bag_of (updated assignments condition (table_rows old))

-- if WHERE found the places, the bag has these rows in place of those that it keeps
abbrev pub LeavesFound : List ℕ → List Row → StoredTable → StoredTable → Type 0
LeavesFound places rows old new =
    (condition : Option Cond) → IsFound condition old places → table_rows new ≡ bag_of (left_by condition (table_rows old) ++ rows)

-- ---- Segments
-- segments that were built of these rows in turn, each of the next 65,536 or of as many as are left
abbrev pub AreBuilt : List ℕ → List Row → List (List MarkedRow) → Type 0
AreBuilt sort rows [] = rows ≡ []
AreBuilt sort rows (segment ∷ segments) = (0 < length rows) × IsBuilt (take 65536 rows) sort segment × AreBuilt sort (drop 65536 rows) segments

-- the first rows left the write store, and the live ones of them stand in new segments behind the others
pub record Moves (count : ℕ) (old new : StoredTable) : Type 0 where
  pub made : List (List MarkedRow)
  pub is : new ≡ with_stored (old.segments ++ made) (drop count old.written) old
  pub built : AreBuilt old.sort (live (take count old.written)) made

-- the live rows of the segments stand in new ones
pub record Merges (old new : StoredTable) : Type 0 where
  pub is : new ≡ with_stored new.segments old.written old
  pub built : AreBuilt old.sort (live (joined old.segments)) new.segments

-- a move lowers the rows of the write store by so many, and no row of a segment gets a mark
pub record MovesCounts (count : ℕ) (old new : StoredTable) : Type 0 where
  pub write_len : write_len new ≡ write_len old - count
  pub marked_len : marked_len new ≡ marked_len old

-- a merge leaves no row of a segment with a mark, and the write store as it is
pub record MergesCounts (old new : StoredTable) : Type 0 where
  pub write_len : write_len new ≡ write_len old
  pub marked_len : marked_len new ≡ 0
