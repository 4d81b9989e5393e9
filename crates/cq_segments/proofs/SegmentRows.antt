-- The rows of a segment, by its pieces.
use Rattle.std.proofs.Common.{◌≡◌, ◌∙◌, ℕ, zero, suc, ◌+◌, ◌-◌, ◌*◌, ◌/◌, ◌%◌, ◌<◌, ◌≤◌, true, false, List, [], ◌∷◌, ◌++◌, None, length, drop, take, get_or, refl, sym, ap, ap₂, subst, arith}
use Rattle.std.specs.Prelude.{slice_set}
use Rattle.std.specs.List.{AllByRecursion, list_any}
use Rattle.std.specs.List.Sorted.{IsPermutation, IsSorted, IsStable}
use Rattle.std.proofs.lemmas.List.{get_or_default, get_or_past, length-map, nil_from_length}
use Rattle.std.proofs.lemmas.List.Elements.{All-from_recursion, recursion_from_All}
use Rattle.std.proofs.lemmas.List.Sorted.{All-permutation}
use Rattle.cq_values.specs.Value.{Row, is_null}
use Rattle.cq_values.specs.declared.value.Value.TheVariants.{Null}
use Rattle.cq_encodings.specs.declared.any_encoded.AnyEncoded.{AnyEncoded}
use Rattle.cq_vectors.specs.Gathered.{column_of}
use Rattle.cq_encodings_numbers.specs.Bounds.{AreBounds, IsBounded}
use Rattle.cq_segments_pieces.specs.Columns.{AreWide, columns_in, columns_of}
use Rattle.cq_segments_pieces.specs.Marked.{MarkedRow, live, marks_of, rows_of, unmarked, with_mark}
use Rattle.cq_segments_pieces.specs.Pieces.{AreFull, joined}
use Rattle.cq_segments.specs.Segment.{HaveBounds, IsSegment}
use Rattle.cq_segments.specs.Sorted.{IsBuilt, columns_cmp}
use Rattle.cq_segments.specs.declared.held_bounds.HeldBounds.{HeldBounds}
use Rattle.cq_segments_pieces.proofs.Marks.{length-mark, live-unmarked, mark-at, mark-behind, mark-in-front, row-at, rows_of-mark, rows_of-unmarked}
use Rattle.cq_segments_pieces.proofs.PieceLists.{before_it, full-length, full-set, item-at, joined-at, joined-set, list_there, place_there}

abbrev blank : MarkedRow
blank = record { row = []; marked = false }

-- ---- one row

module _ (pieces : List (List MarkedRow)) (are : AreFull pieces) (stored : List MarkedRow) (whole : joined pieces ≡ stored) (place : ℕ) (lt : place < length stored) where
  below : place < length (joined pieces)
  below = omega (arith, lt, ap length whole)

  -- its piece is there
  pub piece_there : place / 1024 < length pieces
  piece_there = list_there pieces are place below

  module _ (piece : List MarkedRow) (read : piece ≡ get_or pieces (place / 1024) piece) where
    pub piece_is : piece ≡ get_or pieces (place / 1024) []
    piece_is = read ∙ get_or_default pieces (place / 1024) piece [] piece_there

    -- and so is its place in the piece
    pub within : place % 1024 < length piece
    within = omega (arith, place_there pieces are place below, ap length piece_is)

    stands : get_or piece (place % 1024) blank ≡ get_or stored place blank
    stands = ap (λ l. get_or l (place % 1024) blank) piece_is ∙ sym (item-at pieces are place below blank) ∙ ap (λ l. get_or l place blank) whole

    pub mark_read : get_or (marks_of piece) (place % 1024) false ≡ get_or (marks_of stored) place false
    mark_read = mark-at piece (place % 1024) blank within ∙ ap (λ (m : MarkedRow). m.marked) stands ∙ sym (mark-at stored place blank lt)

    pub row_read : get_or (rows_of piece) (place % 1024) [] ≡ get_or (rows_of stored) place []
    row_read = row-at piece (place % 1024) blank within ∙ ap (λ (m : MarkedRow). m.row) stands ∙ sym (row-at stored place blank lt)

    -- the pieces with the mark in its piece
    abbrev pub marked_pieces : List (List MarkedRow)
    marked_pieces = slice_set pieces (place / 1024) (with_mark (place % 1024) piece)

    pub marked : joined marked_pieces ≡ with_mark place stored
    marked =
        let front = joined (take (place / 1024) pieces) in
        let back = joined (drop (place / 1024 + 1) pieces) in
        let j = place % 1024 in
        joined-set pieces (place / 1024) (with_mark j piece) piece_there
        ∙ ap (λ l. front ++ l) (sym (mark-in-front piece back j within))
        ∙ sym (mark-behind front (piece ++ back) j)
        ∙ ap₂ with_mark (before_it pieces are place below) (ap (λ l. front ++ (l ++ back)) piece_is ∙ sym (joined-at pieces (place / 1024) piece_there) ∙ whole)

    same_rows : rows_of (joined marked_pieces) ≡ rows_of (joined pieces)
    same_rows = ap rows_of marked ∙ rows_of-mark stored place ∙ ap rows_of (sym whole)

    same_length : length (joined marked_pieces) ≡ length (joined pieces)
    same_length = ap length marked ∙ length-mark stored place ∙ ap length (sym whole)

    -- are those of a segment still
    pub segment-marked : (encoded : List AnyEncoded) (bounds : List HeldBounds) → IsSegment encoded pieces bounds → IsSegment encoded marked_pieces bounds
    segment-marked encoded bounds s = record {
      some = omega (arith, s.some, same_length);
      few = omega (arith, s.few, same_length);
      full = full-set pieces are (place / 1024) (with_mark (place % 1024) piece) piece_there (length-mark piece (place % 1024) ∙ ap length piece_is);
      wide = subst (AreWide (length bounds)) (sym same_rows) s.wide;
      bounded = subst (HaveBounds bounds) (sym same_rows) s.bounded;
      columns = s.columns ∙ ap (λ rows. columns_of rows (length bounds)) (sym same_rows);
    }

-- ---- how many rows

-- all pieces but the last are full
pub last_piece : (pieces : List (List MarkedRow)) (n : ℕ) → AreFull pieces → n ≡ length pieces → 0 < length (joined pieces) → (0 < n) × (length (joined pieces) ≡ 1024 * (n - 1) + length (get_or pieces (n - 1) []))
last_piece pieces zero are e some = absurd (omega (arith, some, ap (λ l. length (joined l)) (nil_from_length pieces (sym e))))
last_piece pieces (suc k) are e some = (omega arith, full-length pieces are (suc k - 1) (omega (arith, e)))

-- ---- bounds

-- a column that no row has is NULL
pub nulls_past : (rows : List Row) (width at : ℕ) → 0 < length rows → AreWide width rows → width ≤ at → AreBounds true None (column_of rows at)
nulls_past rows width at some wide past = record { all = all rows wide; known = tt; among = tt; null = sym (any rows some wide) }
  where
    all : (rows : List Row) → AreWide width rows → AllByRecursion (IsBounded true None) (column_of rows at)
    all [] wide = tt
    all (row ∷ rows) wide = ((ap is_null (get_or_past row at Null (omega (arith, past, wide.0))), refl), all rows wide.1)

    any : (rows : List Row) → 0 < length rows → AreWide width rows → list_any is_null (column_of rows at) ≡ true
    any [] some wide = absurd (omega (arith, some))
    any (row ∷ rows) some wide = rw (get_or_past row at Null (omega (arith, past, wide.0))) refl

-- ---- what is built

-- rows in another order are as wide
pub wide_sorted : (rows sorted : List Row) (width : ℕ) → IsPermutation rows sorted → AreWide width rows → AreWide width sorted
wide_sorted rows sorted width same wide =
    let P = λ (row : Row). length row ≡ width in
    recursion_from_All P sorted (All-permutation P rows sorted same (All-from_recursion P rows wide))

module _ (rows sorted : List Row) (built : List MarkedRow) (made : built ≡ unmarked sorted) (same : IsPermutation rows sorted) where
  all_live : live built ≡ sorted
  all_live = ap live made ∙ live-unmarked sorted

  pub is_built : (sort : List ℕ) → IsSorted (columns_cmp sort) sorted → IsStable (columns_cmp sort) rows sorted → IsBuilt rows sort built
  is_built sort in_order stable = record {
    none_marked = made ∙ ap unmarked (sym all_live);
    same = subst (IsPermutation rows) (sym all_live) same;
    sorted = subst (IsSorted (columns_cmp sort)) (sym all_live) in_order;
    stable = subst (IsStable (columns_cmp sort) rows) (sym all_live) stable;
  }

-- pieces of rows with their bounds are a segment
pub segment-built : (rows : List Row) (pieces : List (List MarkedRow)) → joined pieces ≡ unmarked rows
    → (width : ℕ) (encoded : List AnyEncoded) (bounds : List HeldBounds) → AreFull pieces → columns_in encoded ≡ columns_of rows width → length bounds ≡ width → HaveBounds bounds rows
    → AreWide width rows → 0 < length rows → length rows ≤ 65536 → IsSegment encoded pieces bounds
segment-built rows pieces made width encoded bounds full columns as_many bounded wide some few =
    let count = ap length made ∙ length-map rows (λ (row : Row). record { row = row; marked = false }) in
    let there = ap rows_of made ∙ rows_of-unmarked rows in
    record {
      some = omega (arith, count, some);
      few = omega (arith, count, few);
      full = full;
      wide = subst (AreWide (length bounds)) (sym there) (subst (λ n. AreWide n rows) (sym as_many) wide);
      bounded = subst (HaveBounds bounds) (sym there) bounded;
      columns = columns ∙ ap₂ columns_of (sym there) (sym as_many);
    }
