-- The places of stored rows that a condition picks.
use Rattle.std.specs.Prelude.{◌≡◌, ◌&&◌, ℕ, zero, suc, Bool, true, false, not, List, [], ◌∷◌, ◌++◌, length, Option}
use Rattle.std.specs.Global.{Vec}
use Rattle.cq_values.specs.Value.{Row}
use Rattle.cq_model.specs.Expr.{Cond}
use Rattle.cq_model.specs.Meaning.{keeps}
use Rattle.cq_operators_conditions.specs.Kept.{places_where}
use Rattle.cq_segments_pieces.specs.Marked.{MarkedRow, rows_of, with_mark}
use Rattle.cq_encodings_vectors.specs.Places.{AreBelow, rows_at}
use Rattle.cq_model.specs.Write.{chosen}
use Rattle.cq_table_columns.specs.Stored.{marked_rows}
use Rattle.cq_table_columns.specs.declared.front.Front.{Front}
use Rattle.cq_table.specs.Table.{SameRows, StoredTable, stored_in, table_rows}

-- whether a row is live and passes a test
abbrev pub passes : (Row → Bool) → MarkedRow → Bool
passes test m = not m.marked && test m.row

-- the places of the live rows of which WHERE is True, where so many stand before them
abbrev pub where_places : ℕ → Option Cond → List MarkedRow → List ℕ
where_places before condition stored = places_where before (passes (keeps condition)) stored

-- behind the places stand those of the rows at a front
abbrev pub PutsPlaces : ℕ → Option Cond → Front → Vec ℕ → Vec ℕ → Type 0
PutsPlaces before condition front old new = new.items ≡ old.items ++ where_places before condition (marked_rows front)

-- the places of all live rows of which WHERE is True, among all stored rows
abbrev pub IsFound : Option Cond → StoredTable → List ℕ → Type 0
IsFound condition t places = places ≡ where_places 0 condition (stored_in t)

-- whether the row at a place is there and live
abbrev pub is_live_at : ℕ → List MarkedRow → Bool
is_live_at place [] = false
is_live_at zero (m ∷ stored) = not m.marked
is_live_at (suc place) (m ∷ stored) = is_live_at place stored

-- the rows at these places are live, and no place stands twice
abbrev pub AreLiveAt : List ℕ → List MarkedRow → Type 0
AreLiveAt [] stored = Unit {0}
AreLiveAt (place ∷ places) stored = (is_live_at place stored ≡ true) × AreLiveAt places (with_mark place stored)

-- each of these places has a row
abbrev pub AreThere : List ℕ → List MarkedRow → Type 0
AreThere places stored = AreBelow (length stored) places

-- the rows at these places, marked or not
abbrev pub found_rows : List MarkedRow → List ℕ → List Row
found_rows stored places = rows_at (rows_of stored) places

-- those of a table
abbrev pub rows_found : StoredTable → List ℕ → List Row
rows_found t places = found_rows (stored_in t) places

-- how many rows of a table WHERE keeps
abbrev pub chosen_count : Option Cond → StoredTable → ℕ
chosen_count condition t = length (chosen condition (table_rows t))

-- the rows at the places that were found are those that WHERE keeps
abbrev pub PicksChosen : Option Cond → StoredTable → List ℕ → Type 0
PicksChosen condition t places = SameRows (rows_found t places) (chosen condition (table_rows t))
