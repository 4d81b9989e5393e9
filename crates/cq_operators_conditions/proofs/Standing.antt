-- Places of the rows that pass: those of a piece, condition after condition, and those of a segment, piece after piece.
use Rattle.std.proofs.Common.{◌≡◌, ℕ, ◌+◌, ◌-◌, ◌<◌, ◌≤◌, List, [], ◌∷◌, ◌++◌, map, drop, length, get_or, refl, sym, ◌∙◌, ap, ap₂, subst, arith, add-one, drop-cons}
use Rattle.std.specs.Borrow.{Bor}
use Rattle.std.specs.List.{AllByRecursion}
use Rattle.std.proofs.lemmas.List.{append-nil, append_assoc, drop_all, get_or-append_right, get_or_append_left, length-append, length-map, map-append}
use Rattle.std.proofs.lemmas.List.Elements.{filter-append}
use Rattle.cq_model_bags.proofs.Lists.{all-append, all-back, all-front, all-map, all-weaker}
use Rattle.cq_values.specs.Value.{Row}
use Rattle.cq_model.specs.Own.{passes_own}
use Rattle.cq_model.specs.declared.expr.CondTree.{CondTree}
use Rattle.cq_encodings_vectors.specs.Places.{AreBelow, places_at, rows_at}
use Rattle.cq_segments_pieces.specs.Marked.{MarkedRow, live, live_from, rows_of}
use Rattle.cq_segments_pieces.specs.Pieces.{joined}
use Rattle.cq_segments_pieces.proofs.Marks.{length-live, length-rows_of, live-append, rows_of-append}
use Rattle.cq_table_columns.proofs.AtPlaces.{below-at, rows-at}
use Rattle.cq_table_columns.proofs.LiveRows.{live_at, live_below}
use Rattle.cq_operators_conditions.specs.Passing.{CanAllPass, CanPass, conditions_in, passing_rows}
use Rattle.cq_operators_conditions.proofs.Asking.{LeftToPass}

-- ---- the places of a piece
-- The rows that passed so far stand at these places.
pub record StandsAt (stored : List MarkedRow) (passed : List Row) (places : List ℕ) : Type 0 where
  pub rows : rows_at (rows_of stored) places ≡ passed
  pub there : AreBelow (length stored) places

-- each kept place is one of the list of places
pub kept-below : (stored : List MarkedRow) (passed : List Row) (places kept : List ℕ) → StandsAt stored passed places → AreBelow (length passed) kept → AreBelow (length places) kept
kept-below stored passed places kept stand below =
    subst (λ (n : ℕ). AreBelow n kept) (sym (ap length stand.rows) ∙ length-map places _) below

-- those of them that are kept stand at what the places have there
pub stands-kept : (stored : List MarkedRow) (passed : List Row) (places kept : List ℕ) → StandsAt stored passed places → AreBelow (length passed) kept
    → (rows : List Row) → rows ≡ rows_at passed kept → (news : List ℕ) → news ≡ places_at places kept → StandsAt stored rows news
stands-kept stored passed places kept stand below rows is news are =
    let there = kept-below stored passed places kept stand below in record {
      rows = ap (rows_at (rows_of stored)) are ∙ rows-at (rows_of stored) places kept there ∙ ap (λ rs. rows_at rs kept) stand.rows ∙ sym is;
      there = subst (AreBelow (length stored)) (sym are) (below-at (length stored) places kept stand.there there);
    }

-- at first these are the places of all live rows, of which all conditions are to be asked
module _ (stored : List MarkedRow) (passed : List Row) (is : passed ≡ live stored) where
  pub all-stand : (places : List ℕ) → places ≡ live_from 0 stored → StandsAt stored passed places
  all-stand places are = record {
    rows = ap (rows_at (rows_of stored)) are ∙ live_at stored ∙ sym is;
    there = subst (AreBelow (length stored)) (sym are) (subst (λ (n : ℕ). AreBelow n (live_from 0 stored)) (length-rows_of stored) (live_below stored));
  }

  pub all-left : (before : ℕ) (conditions : List (Bor CondTree)) → length stored ≤ 1024 → CanAllPass before conditions (live stored) → LeftToPass before conditions conditions passed (live stored)
  all-left before conditions few can = record {
    few = omega (arith, ap length is, length-live stored, few);
    exact = subst (CanAllPass before conditions) (sym is) can;
    completes = ap (passing_rows before conditions) is;
  }

-- ---- the places of a segment
-- behind others rows stand at places that are counted from the number of these on
moved-rows : (before rows behind : List Row) (start : ℕ) → start ≡ length before → (places : List ℕ) → AreBelow (length rows) places
    → rows_at (before ++ (rows ++ behind)) (map (λ p. start + p) places) ≡ rows_at rows places
moved-rows before rows behind start is [] below = refl
moved-rows before rows behind start is (place ∷ places) below =
    ap₂ (λ (r : Row) rs. r ∷ rs)
    (get_or-append_right before (rows ++ behind) start (start + place) [] (sym is) (omega arith)
    ∙ ap (λ (n : ℕ). get_or (rows ++ behind) n []) {x = start + place - start} {y = place} (omega arith) ∙ get_or_append_left rows behind [] place below.0)
    (moved-rows before rows behind start is places below.1)

-- Some pieces of a segment are left, and what is chosen of the live rows of those before stands at these places.
pub record LeftToPlace (chosen : List Row → List Row) (whole : List MarkedRow) (left : List (List MarkedRow)) (start : ℕ) (places : List ℕ) : Type 0 where
  pub front : List MarkedRow
  pub parts : whole ≡ front ++ joined left
  pub long : start ≡ length front
  pub there : AreBelow (length whole) places
  pub stand : rows_at (rows_of whole) places ≡ chosen (live front)

-- at first all are left
pub none-placed : (chosen : List Row → List Row) → chosen [] ≡ [] → (whole : List MarkedRow) (pieces : List (List MarkedRow)) → joined pieces ≡ whole → LeftToPlace chosen whole pieces 0 []
none-placed chosen none whole pieces are = record { front = []; parts = sym are; long = refl; there = tt; stand = sym none }

module _ (chosen : List Row → List Row) (whole : List MarkedRow) (piece : List MarkedRow) (left : List (List MarkedRow)) (start : ℕ) (places : List ℕ)
    (placed : LeftToPlace chosen whole (piece ∷ left) start places) where
  first-few : start + length piece ≤ length whole
  first-few = omega (arith, placed.long, ap length placed.parts, length-append placed.front (piece ++ joined left), length-append piece (joined left))

  first-can : (before : ℕ) (conditions : List (Bor CondTree)) → CanAllPass before conditions (live whole) → CanAllPass before conditions (live piece)
  first-can before conditions can =
      let can_pass = CanPass before (conditions_in conditions) in
      let lives = ap live placed.parts ∙ live-append placed.front (piece ++ joined left) in
      let behind = all-back can_pass (live placed.front) (live (piece ++ joined left)) (subst (AllByRecursion can_pass) lives can) in
      all-front can_pass (live piece) (live (joined left)) (subst (AllByRecursion can_pass) (live-append piece (joined left)) behind)

  module _ (in_parts : (front back : List Row) → chosen (front ++ back) ≡ chosen front ++ chosen back)
      (more : List ℕ) (there : AreBelow (length piece) more) (stand : rows_at (rows_of piece) more ≡ chosen (live piece)) where
    abbrev moved : List ℕ
    moved = map (λ p. start + p) more

    moved-there : AreBelow (length whole) moved
    moved-there = all-map (λ (p : ℕ). p < length piece) (λ (p : ℕ). p < length whole) (λ p. start + p) (λ p lt. omega (arith, lt, first-few)) more there

    moved-are : rows_at (rows_of whole) moved ≡ rows_at (rows_of piece) more
    moved-are =
        ap (λ rs. rows_at rs moved) (ap rows_of placed.parts ∙ rows_of-append placed.front (piece ++ joined left) ∙ ap (λ rs. rows_of placed.front ++ rs) (rows_of-append piece (joined left)))
        ∙ moved-rows (rows_of placed.front) (rows_of piece) (rows_of (joined left)) start (placed.long ∙ sym (length-rows_of placed.front)) more
        (subst (λ (n : ℕ). AreBelow n more) (sym (length-rows_of piece)) there)

    first-placed : LeftToPlace chosen whole left (start + length piece) (places ++ moved)
    first-placed = record {
      front = placed.front ++ piece;
      parts = placed.parts ∙ sym (append_assoc placed.front piece (joined left));
      long = ap (λ (n : ℕ). n + length piece) placed.long ∙ sym (length-append placed.front piece);
      there = all-append (λ (p : ℕ). p < length whole) places moved placed.there moved-there;
      stand = map-append (λ (p : ℕ). get_or (rows_of whole) p []) places moved ∙ ap₂ (λ a b. a ++ b) placed.stand (moved-are ∙ stand)
          ∙ sym (in_parts (live placed.front) (live piece)) ∙ ap chosen (sym (live-append placed.front piece));
    }

module _ (chosen : List Row → List Row) (whole : List MarkedRow) (pieces : List (List MarkedRow)) (i : ℕ) (piece : List MarkedRow) (more : i < length pieces) (is : piece ≡ get_or pieces i piece)
    (start : ℕ) (places : List ℕ) (placed : LeftToPlace chosen whole (drop i pieces) start places) where
  at-next : LeftToPlace chosen whole (piece ∷ drop (i + 1) pieces) start places
  at-next =
      subst (λ left. LeftToPlace chosen whole left start places)
      (drop-cons pieces i piece more ∙ ap (λ (n : ℕ). get_or pieces i piece ∷ drop n pieces) (sym (add-one i)) ∙ ap (λ p. p ∷ drop (i + 1) pieces) (sym is)) placed

  -- the next piece has no more rows than the segment behind those before it
  pub next-few : start + length piece ≤ length whole
  next-few = first-few chosen whole piece (drop (i + 1) pieces) start places at-next

  -- of its rows the conditions can be asked
  pub next-can : (before : ℕ) (conditions : List (Bor CondTree)) → CanAllPass before conditions (live whole) → CanAllPass before conditions (live piece)
  next-can = first-can chosen whole piece (drop (i + 1) pieces) start places at-next

  -- its places do not leave the segment
  pub next-below : length whole ≤ 65536 → (found : List ℕ) → AreBelow (length piece) found → AreBelow (65536 - start) found
  next-below few found there = all-weaker (λ (p : ℕ). p < length piece) (λ (p : ℕ). p < 65536 - start) (λ (p : ℕ) lt. omega (arith, lt, few, next-few)) found there

  -- and go behind those so far
  pub next-placed : ((front back : List Row) → chosen (front ++ back) ≡ chosen front ++ chosen back)
      → (found : List ℕ) → AreBelow (length piece) found → rows_at (rows_of piece) found ≡ chosen (live piece)
      → LeftToPlace chosen whole (drop (i + 1) pieces) (start + length piece) (places ++ map (λ p. start + p) found)
  next-placed = first-placed chosen whole piece (drop (i + 1) pieces) start places at-next

-- where none is left the places are those of all that are chosen
pub all-placed : (chosen : List Row → List Row) (whole : List MarkedRow) (pieces : List (List MarkedRow)) (i start : ℕ) (places : List ℕ) → length pieces ≤ i
    → LeftToPlace chosen whole (drop i pieces) start places → rows_at (rows_of whole) places ≡ chosen (live whole)
all-placed chosen whole pieces i start places le placed =
    placed.stand ∙ ap (λ ms. chosen (live ms)) (sym (append-nil placed.front) ∙ ap (λ left. placed.front ++ joined left) (sym (drop_all i pieces le)) ∙ sym placed.parts)

-- those that pass conditions of lists behind each other
pub passing-parts : (before : ℕ) (conditions : List (Bor CondTree)) (front back : List Row) → passing_rows before conditions (front ++ back) ≡ passing_rows before conditions front ++ passing_rows before conditions back
passing-parts before conditions front back = filter-append (passes_own before (conditions_in conditions)) front back
