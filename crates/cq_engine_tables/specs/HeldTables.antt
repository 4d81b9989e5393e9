-- Tables as they are held, and how writes, moves and merges change the lengths of what they store.
use Rattle.std.specs.Prelude.{◌≡◌, ◌+◌, ◌-◌, ◌==◌, ℕ, false, if◌then◌else◌, List, [], ◌∷◌, filter, length, map, not}
use Rattle.std.specs.Global.{Vec}
use Rattle.cq_model_state.specs.State.{TableOf}
use Rattle.cq_segments_pieces.specs.Marked.{MarkedRow, marked_count}
use Rattle.cq_segments_pieces.specs.Pieces.{joined}
use Rattle.cq_table.specs.Table.{StoredTable}
use Rattle.cq_engine_tables.specs.Tables.{named}

-- how many rows a write store has, those with a mark too, how many each segment has, and how many of these have a mark
pub record Lengths : Type 0 where
  pub write_len : ℕ
  pub segments : List ℕ
  pub marked_len : ℕ

-- a table as statements find it, its segments, and its write store
pub record HeldTable : Type 0 where
  pub is : TableOf
  pub segments : List (List MarkedRow)
  pub written : List MarkedRow

-- a stored table under its number and its name
abbrev pub held : ℕ → List ℕ → StoredTable → HeldTable
held number name t = record { is = named number name t; segments = t.segments; written = t.written }

-- the lengths of what a table stores
abbrev pub lengths_of : HeldTable → Lengths
lengths_of t = record { write_len = length t.written; segments = map length t.segments; marked_len = marked_count (joined t.segments) }

-- the tables that they are
abbrev pub tables_of : List HeldTable → List TableOf
tables_of tables = map (λ t. t.is) tables

-- nothing is stored
abbrev pub nothing : Lengths
nothing = record { write_len = 0; segments = []; marked_len = 0 }

-- the lengths of the table of a number; where there is no such table, nothing is stored
abbrev pub lengths_in : List HeldTable → ℕ → Lengths
lengths_in [] n = nothing
lengths_in (t ∷ tables) n = if t.is.number == n then lengths_of t else lengths_in tables n

-- ---- What becomes of lengths
-- so many rows were put into the write store, and the segments are as they were
pub record GrowBy (count : ℕ) (old new : Lengths) : Type 0 where
  pub write_len : new.write_len ≡ old.write_len + count
  pub segments : new.segments ≡ old.segments
  pub marked_len : new.marked_len ≡ old.marked_len

-- so many rows left the write store, or all where there were fewer, and no row of a segment has got a mark
pub record MoveBy (count : ℕ) (old new : Lengths) : Type 0 where
  pub write_len : new.write_len ≡ old.write_len - count
  pub marked_len : new.marked_len ≡ old.marked_len

-- no row of a segment has a mark any more, and the write store is as long as it was
pub record MergeTo (old new : Lengths) : Type 0 where
  pub write_len : new.write_len ≡ old.write_len
  pub marked_len : new.marked_len ≡ 0

-- rows were marked where they stand: no segment was made anew, and the write store is as long as it was
pub record MarkIn (old new : Lengths) : Type 0 where
  pub write_len : new.write_len ≡ old.write_len
  pub segments : new.segments ≡ old.segments

-- rows were marked where they stand, and so many others put into the write store
pub record ExchangeBy (count : ℕ) (old new : Lengths) : Type 0 where
  pub write_len : new.write_len ≡ old.write_len + count
  pub segments : new.segments ≡ old.segments

-- so it is with the lengths of a table: its write store got so many rows
abbrev pub Grows : ℕ → HeldTable → HeldTable → Type 0
Grows count old new = GrowBy count (lengths_of old) (lengths_of new)

-- or so many in place of others, which were marked
abbrev pub Exchanges : ℕ → HeldTable → HeldTable → Type 0
Exchanges count old new = ExchangeBy count (lengths_of old) (lengths_of new)

-- the table is gone, or is not there yet
abbrev pub StoreNothing : Lengths → Lengths → Type 0
StoreNothing old new = new ≡ nothing

-- this becomes of the lengths of the table of a number, and those of the others stay
pub record ChangeAt (number : ℕ) (R : Lengths → Lengths → Type 0) (old new : List HeldTable) : Type 0 where
  pub here : R (lengths_in old number) (lengths_in new number)
  pub others : (n : ℕ) → (n == number) ≡ false → lengths_in new n ≡ lengths_in old n

-- the write store of the table of a number got so many rows
abbrev pub GrowsAt : ℕ → ℕ → Vec HeldTable → Vec HeldTable → Type 0
GrowsAt number count old new = ChangeAt number (GrowBy count) old.items new.items

-- or so many in place of others, which were marked
abbrev pub ExchangesAt : ℕ → ℕ → Vec HeldTable → Vec HeldTable → Type 0
ExchangesAt number count old new = ChangeAt number (ExchangeBy count) old.items new.items

-- the table of a number is gone, and the others stay
abbrev pub Drops : ℕ → Vec HeldTable → Vec HeldTable → Type 0
Drops number old new = tables_of new.items ≡ filter (λ t. not (t.number == number)) (tables_of old.items)

-- the lengths of all tables stay
abbrev pub LengthsStay : List HeldTable → List HeldTable → Type 0
LengthsStay old new = (n : ℕ) → lengths_in new n ≡ lengths_in old n
