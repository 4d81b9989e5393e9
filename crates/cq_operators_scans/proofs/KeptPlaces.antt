-- Rows that are kept by their places.
use Rattle.std.proofs.Common.{◌≡◌, ℕ, zero, suc, ◌+◌, ◌<◌, ◌≤◌, Bool, true, false, cond, List, [], ◌∷◌, ◌++◌, map, length, get_or, refl, sym, ◌∙◌, ap, ap₂, subst, arith}
use Rattle.std.specs.Prelude.{if◌then◌else◌}
use Rattle.std.specs.List.{AllByRecursion, filter, range_with_len}
use Rattle.std.proofs.lemmas.List.{length-map}
use Rattle.cq_values.specs.Truth.{is_true}
use Rattle.cq_values.specs.Value.{Row}
use Rattle.cq_values.specs.declared.truth.Truth.{Truth}
use Rattle.cq_vectors_masks.specs.Selection.{is_true_at, where_true}
use Rattle.cq_encodings_vectors.specs.Places.{rows_at}
use Rattle.cq_segments_pieces.specs.Marked.{MarkedRow, live, rows_of}
use Rattle.cq_table_positions.specs.Live.{live_true, unless_marked}
use Rattle.cq_operators_scans.specs.Paired.{ArePlaces}
use Rattle.cq_operators_scans.proofs.RowBehind.{next-is, next-long, row-here, told-here}
use Rattle.cq_model_bags.proofs.Lists.{all-filter}

-- the row at a place comes first, where the place is kept
one-at : (b : Bool) (rows : List Row) (place : ℕ) (places : List ℕ) → rows_at rows (cond b (place ∷ places) places) ≡ cond b (get_or rows place [] ∷ rows_at rows places) (rows_at rows places)
one-at true rows place places = refl
one-at false rows place places = refl

-- counted places lie below their end
below : (end from n : ℕ) → from + n ≤ end → AllByRecursion {X = ℕ} (λ place. place < end) (range_with_len from n)
below end from zero le = tt
below end from (suc n) le = (omega (arith, le), below end (from + 1) n (omega (arith, le)))

-- behind some rows, those at the places where a test is True are the ones that pass it
kept-from : (test : Row → Truth) (whole before after : List Row) → whole ≡ before ++ after → (n : ℕ) → length before ≡ n
    → rows_at whole (where_true (map test whole) (range_with_len n (length after))) ≡ filter (λ row. is_true (test row)) after
kept-from test whole before [] is n long = refl
kept-from test whole before (row ∷ after) is n long =
    let rest = kept-from test whole (before ++ row ∷ []) after (next-is whole before row after is) (n + 1) (next-long whole before row after is n long) in
    let places = where_true (map test whole) (range_with_len (n + 1) (length after)) in
    one-at (is_true_at (map test whole) n) whole n places
    ∙ ap (λ (b : Bool). cond b (get_or whole n [] ∷ rows_at whole places) (rows_at whole places)) (told-here whole before row after is n long test)
    ∙ ap₂ (λ (r : Row) (rows : List Row). cond (is_true (test row)) (r ∷ rows) rows) (row-here whole before row after is n long) rest

module _ (test : Row → Truth) (rows : List Row) (truths : List Truth) (are : truths ≡ map test rows) (places : List ℕ) (is : places ≡ where_true truths (range_with_len 0 (length truths))) where
  long : length truths ≡ length rows
  long = ap length are ∙ length-map rows test

  -- the rows where the test is True are the ones that pass it
  pub kept-at : rows_at rows places ≡ filter (λ row. is_true (test row)) rows
  kept-at =
      ap (rows_at rows) (is ∙ ap₂ (λ (ts : List Truth) (n : ℕ). where_true ts (range_with_len 0 n)) are long) ∙ kept-from test rows [] rows refl 0 refl

  -- and each stands there
  pub kept-places : ArePlaces rows places
  kept-places =
      subst (ArePlaces rows) (sym is)
      (all-filter (λ (place : ℕ). place < length rows) (is_true_at truths) (range_with_len 0 (length truths)) (below (length rows) 0 (length truths) (omega (arith, long))))

-- a row is kept where the test is True and it has no mark
one-live : (test : Row → Truth) (marked : Bool) (row : Row) (rows : List Row)
    → (if is_true (unless_marked (test row) marked) then row ∷ filter (λ r. is_true (test r)) rows else filter (λ r. is_true (test r)) rows) ≡ filter (λ r. is_true (test r)) (if marked then rows else row ∷ rows)
one-live test true row rows = refl
one-live test false row rows = refl

-- those without a mark of which the test is True are the ones without a mark that pass it
pub kept-live : (test : Row → Truth) (stored : List MarkedRow) → live_true (map test (rows_of stored)) stored ≡ filter (λ row. is_true (test row)) (live stored)
kept-live test [] = refl
kept-live test (m ∷ stored) =
    ap (λ (rows : List Row). if is_true (unless_marked (test m.row) m.marked) then m.row ∷ rows else rows) (kept-live test stored) ∙ one-live test m.marked m.row (live stored)
