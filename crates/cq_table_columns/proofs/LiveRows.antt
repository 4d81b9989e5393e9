-- The rows without a mark, by their places.
use Rattle.std.proofs.Common.{if◌then◌else◌, ◌≡◌, ◌∙◌, ℕ, zero, suc, ◌+◌, ◌<◌, ◌≤◌, Bool, List, [], ◌∷◌, ◌++◌, length, length-append, get_or, take, drop, refl, sym, ap, ap₂, subst, arith}
use Rattle.std.specs.List.{range_with_len}
use Rattle.std.proofs.Math.Seq.{get_or-append_seam}
use Rattle.std.proofs.lemmas.List.{append_assoc, get_or-map, nil_from_length, take-append-drop, take-map}
use Rattle.cq_model_bags.proofs.Totals.{by_test}
use Rattle.cq_values.specs.Value.{Row}
use Rattle.cq_segments_pieces.specs.Marked.{MarkedRow, live, live_from, rows_of, unmarked}
use Rattle.cq_encodings_vectors.specs.Places.{AreBelow, places_at, rows_at}
use Rattle.cq_segments_pieces.proofs.Marks.{length-live_from, length-rows_of, live-append}
use Rattle.cq_table_columns.proofs.AtPlaces.{below-at, rows-at}

-- ---- rows none of which has a mark stand at all places
pub live_from-unmarked : (k : ℕ) (rows : List Row) → live_from k (unmarked rows) ≡ range_with_len k (length rows)
live_from-unmarked k [] = refl
live_from-unmarked k (row ∷ rows) = ap (λ l. k ∷ l) (live_from-unmarked (suc k) rows ∙ ap (λ (n : ℕ). range_with_len n (length rows)) {x = suc k} {y = k + 1} (omega arith))

-- ---- the places are those of rows
below_from : (k end : ℕ) (stored : List MarkedRow) → k + length stored ≤ end → AreBelow end (live_from k stored)
below_from k end [] le = tt
below_from k end (m ∷ stored) le =
    by_test m.marked
    (λ e. rw e (below_from (suc k) end stored (omega (arith, le))))
    (λ e. rw e (omega (arith, le), below_from (suc k) end stored (omega (arith, le))))

pub live_below : (stored : List MarkedRow) → AreBelow (length (rows_of stored)) (live_from 0 stored)
live_below stored = below_from 0 (length (rows_of stored)) stored (omega (arith, length-rows_of stored))

-- and those rows are the live ones
live_behind : (front : List Row) (stored : List MarkedRow) → rows_at (front ++ rows_of stored) (live_from (length front) stored) ≡ live stored
live_behind front [] = refl
live_behind front (m ∷ stored) =
    let rest : rows_at (front ++ m.row ∷ rows_of stored) (live_from (suc (length front)) stored) ≡ live stored =
    ap (λ l. rows_at l (live_from (suc (length front)) stored)) (sym (append_assoc front (m.row ∷ []) (rows_of stored)))
    ∙ ap (λ (k : ℕ). rows_at ((front ++ m.row ∷ []) ++ rows_of stored) (live_from k stored)) {x = suc (length front)} {y = length (front ++ m.row ∷ [])} (omega (arith, length-append front (m.row ∷ [])))
    ∙ live_behind (front ++ m.row ∷ []) stored in
    by_test m.marked (λ e. rw e rest) (λ e. rw e (ap₂ (λ r l. r ∷ l) (get_or-append_seam front m.row (rows_of stored) []) rest))

pub live_at : (stored : List MarkedRow) → rows_at (rows_of stored) (live_from 0 stored) ≡ live stored
live_at stored = live_behind [] stored

-- one of them
pub live_row : (stored : List MarkedRow) (count : ℕ) → count < length (live stored) → get_or (rows_of stored) (get_or (live_from 0 stored) count 0) [] ≡ get_or (live stored) count []
live_row stored count lt =
    sym (get_or-map (λ (p : ℕ). get_or (rows_of stored) p []) (live_from 0 stored) count 0 [] (omega (arith, lt, length-live_from 0 stored)))
    ∙ ap (λ l. get_or l count []) (live_at stored)

-- ---- live rows at some places, by the places of all
module _ (stored : List MarkedRow) (places : List ℕ) (below : AreBelow (length (live stored)) places) where
  below_live : AreBelow (length (live_from 0 stored)) places
  below_live = subst (λ n. AreBelow n places) (sym (length-live_from 0 stored)) below

  pub rows_there : rows_at (rows_of stored) (places_at (live_from 0 stored) places) ≡ rows_at (live stored) places
  rows_there = rows-at (rows_of stored) (live_from 0 stored) places below_live ∙ ap (λ l. rows_at l places) (live_at stored)

  pub places_there : AreBelow (length stored) (places_at (live_from 0 stored) places)
  places_there = subst (λ n. AreBelow n (places_at (live_from 0 stored) places)) (length-rows_of stored) (below-at (length (rows_of stored)) (live_from 0 stored) places (live_below stored) below_live)

-- ---- the live rows among those that come first

-- no live row stands before the first
none_before : (end k len : ℕ) (stored : List MarkedRow) → end ≤ k → AreBelow end (take len (live_from k stored)) → take len (live stored) ≡ []
none_before end k zero stored le below = refl
none_before end k (suc len) [] le below = refl
none_before end k (suc len) (m ∷ stored) le below =
    let at_mark = λ (marked : Bool). AreBelow end (take (suc len) (if marked then live_from (suc k) stored else k ∷ live_from (suc k) stored)) in
    by_test m.marked
    (λ e. rw e (none_before end (suc k) (suc len) stored (omega (arith, le)) (subst at_mark e below)))
    (λ e. absurd (omega (arith, le, (subst at_mark e below).0)))

-- so many places are before the end, and the next one is not
abbrev pub EndsAt : ℕ → ℕ → List ℕ → Type 0
EndsAt end len places = AreBelow end (take len places) × (len < length places → end ≤ get_or places len 0)

-- so many live rows come first
first_from : (end k count len : ℕ) (stored : List MarkedRow) → end ≡ k + count → EndsAt end len (live_from k stored) → take len (live stored) ≡ live (take count stored)
first_from end k zero len stored is ends = none_before end k len stored (omega (arith, is)) ends.0
first_from end k (suc count) zero [] is ends = refl
first_from end k (suc count) (suc len) [] is ends = refl
first_from end k (suc count) len (m ∷ stored) is ends =
    by_test m.marked
    (λ e. rw e (first_from end (suc k) count len stored (omega (arith, is)) (subst at_mark e ends)))
    (λ e. rw e (kept (λ rest. first_from end (suc k) count rest stored (omega (arith, is))) len (subst at_mark e ends)))
  where
    at_mark : Bool → Type 0
    at_mark marked = EndsAt end len (if marked then live_from (suc k) stored else k ∷ live_from (suc k) stored)

    kept : ((rest : ℕ) → EndsAt end rest (live_from (suc k) stored) → take rest (live stored) ≡ live (take count stored))
        → (len : ℕ) → EndsAt end len (k ∷ live_from (suc k) stored) → take len (m.row ∷ live stored) ≡ m.row ∷ live (take count stored)
    kept behind zero ends = absurd (omega (arith, is, ends.1 (omega arith)))
    kept behind (suc rest) ends = ap (λ rows. m.row ∷ rows) (behind rest (ends.0.1, λ lt. ends.1 (omega (arith, lt))))

-- their places are those before the end
pub rows_first : (stored : List MarkedRow) (count len : ℕ) → EndsAt count len (live_from 0 stored) → rows_at (rows_of stored) (take len (live_from 0 stored)) ≡ live (take count stored)
rows_first stored count len ends =
    sym (take-map (λ (p : ℕ). get_or (rows_of stored) p []) len (live_from 0 stored)) ∙ ap (take len) (live_at stored)
    ∙ first_from count 0 count len stored (omega arith) ends

-- and where none is live, so it is among the first
pub none_first : (stored : List MarkedRow) (count : ℕ) → live stored ≡ [] → live (take count stored) ≡ []
none_first stored count none =
    let parts = ap live (sym (take-append-drop count stored)) ∙ live-append (take count stored) (drop count stored) in
    nil_from_length (live (take count stored)) (omega (arith, ap length parts, ap length none, length-append (live (take count stored)) (live (drop count stored))))
