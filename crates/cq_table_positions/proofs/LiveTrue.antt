-- Rows without a mark that are taken by their places among all that are stored.
use Rattle.std.proofs.Common.{◌≡◌, ℕ, zero, suc, ◌+◌, ◌-◌, ◌<◌, ◌≤◌, Bool, true, false, cond, List, [], ◌∷◌, ◌++◌, map, length, get_or, refl, sym, ◌∙◌, ap, ap₂, subst, arith}
use Rattle.std.specs.List.{AllByRecursion, range_with_len}
use Rattle.std.specs.Simd.Lanes.{zip2}
use Rattle.std.proofs.lemmas.List.{append_assoc, get_or-append_right, length-append, length-map, map-append}
use Rattle.std.proofs.lemmas.Simd.{get_or-zip2, length-zip2}
use Rattle.cq_encodings_vectors.specs.Places.{AreBelow, rows_at}
use Rattle.cq_model_bags.proofs.Lists.{all-filter}
use Rattle.cq_segments_pieces.specs.Marked.{MarkedRow, marks_of, rows_of}
use Rattle.cq_values.specs.Truth.{and_truth, is_true, truth_of}
use Rattle.cq_values.specs.Value.{Row}
use Rattle.cq_values.specs.declared.truth.Truth.{Truth}
use Rattle.cq_values.specs.declared.truth.Truth.TheVariants.{True, False, Unknown}
use Rattle.cq_vectors_masks.specs.Plane.{neither}
use Rattle.cq_vectors_masks.specs.Selection.{is_true_at, where_true}
use Rattle.cq_table_positions.specs.Live.{live_true, unless_marked}

-- ---- what is told of rows with a mark
-- AND with what is True where no mark is makes it False
left-out : (t : Truth) (m : Bool) → and_truth t (truth_of (neither m m)) ≡ unless_marked t m
left-out True true = refl
left-out True false = refl
left-out False true = refl
left-out False false = refl
left-out Unknown true = refl
left-out Unknown false = refl

pub all-left-out : (ts : List Truth) (ms : List Bool) → zip2 and_truth ts (map truth_of (zip2 neither ms ms)) ≡ zip2 unless_marked ts ms
all-left-out [] ms = refl
all-left-out (t ∷ ts) [] = refl
all-left-out (t ∷ ts) (m ∷ ms) = ap₂ (λ (x : Truth) xs. x ∷ xs) (left-out t m) (all-left-out ts ms)

-- ---- the rows that are taken
-- an item behind others stands where those end
here : {X : Type 0} (whole before : List X) (x : X) (after : List X) → whole ≡ before ++ x ∷ after → (n : ℕ) → length before ≡ n → (d : X) → get_or whole n d ≡ x
here whole before x after is n long d =
    let none : n - n ≡ 0 = omega arith in
    ap (λ xs. get_or xs n d) is ∙ get_or-append_right before (x ∷ after) n n d long (omega arith) ∙ ap (λ (i : ℕ). get_or (x ∷ after) i d) none

-- the others stand behind it and those before it
next-is : {X : Type 0} (whole before : List X) (x : X) (after : List X) → whole ≡ before ++ x ∷ after → whole ≡ (before ++ x ∷ []) ++ after
next-is whole before x after is = is ∙ sym (append_assoc before (x ∷ []) after)

next-long : {X : Type 0} (before : List X) (x : X) (n : ℕ) → length before ≡ n → length (before ++ x ∷ []) ≡ n + 1
next-long before x n long = length-append before (x ∷ []) ∙ ap (λ (i : ℕ). i + 1) long

-- the row at a place comes first, where the place is taken
one-at : (b : Bool) (rows : List Row) (place : ℕ) (places : List ℕ) → rows_at rows (cond b (place ∷ places) places) ≡ cond b (get_or rows place [] ∷ rows_at rows places) (rows_at rows places)
one-at true rows place places = refl
one-at false rows place places = refl

-- counted places lie below their end
below : (end from n : ℕ) → from + n ≤ end → AllByRecursion {X = ℕ} (λ place. place < end) (range_with_len from n)
below end from zero le = tt
below end from (suc n) le = (omega (arith, le), below end (from + 1) n (omega (arith, le)))

module _ (truths : List Truth) (stored : List MarkedRow) (told : List Truth) (is_told : told ≡ zip2 unless_marked truths (marks_of stored)) where
  -- what is told of a row behind others, if it has no mark
  told-here : (tb : List Truth) (t : Truth) (ta : List Truth) (before : List MarkedRow) (m : MarkedRow) (after : List MarkedRow)
      → truths ≡ tb ++ t ∷ ta → stored ≡ before ++ m ∷ after → (n : ℕ) → length tb ≡ n → length before ≡ n → get_or told n Unknown ≡ unless_marked t m.marked
  told-here tb t ta before m after ts ms n long behind =
      let marks : marks_of stored ≡ marks_of before ++ m.marked ∷ marks_of after = ap marks_of ms ∙ map-append (λ (k : MarkedRow). k.marked) before (m ∷ after) in
      ap (λ (xs : List Truth). get_or xs n Unknown) is_told
      ∙ get_or-zip2 unless_marked truths (marks_of stored) n Unknown false Unknown
      (omega (arith, ap length ts, length-append tb (t ∷ ta), long))
      (omega (arith, ap length marks, length-append (marks_of before) (m.marked ∷ marks_of after), length-map before (λ (k : MarkedRow). k.marked), behind))
      ∙ ap₂ unless_marked (here truths tb t ta ts n long Unknown) (here (marks_of stored) (marks_of before) m.marked (marks_of after) marks n (length-map before _ ∙ behind) false)

  -- behind some rows, those at the places where this is True are taken
  true-from : (tb ta : List Truth) (before after : List MarkedRow) → truths ≡ tb ++ ta → stored ≡ before ++ after → (n : ℕ) → length tb ≡ n → length before ≡ n → length ta ≡ length after
      → rows_at (rows_of stored) (where_true told (range_with_len n (length after))) ≡ live_true ta after
  true-from tb [] before [] ts ms n long behind same = refl
  true-from tb (t ∷ ta) before [] ts ms n long behind same = absurd (omega (arith, same))
  true-from tb [] before (m ∷ after) ts ms n long behind same = absurd (omega (arith, same))
  true-from tb (t ∷ ta) before (m ∷ after) ts ms n long behind same =
      let rest =
      true-from (tb ++ t ∷ []) ta (before ++ m ∷ []) after (next-is truths tb t ta ts) (next-is stored before m after ms) (n + 1) (next-long tb t n long) (next-long before m n behind) (omega (arith, same)) in
      let rows = rows_of stored in
      let places = where_true told (range_with_len (n + 1) (length after)) in
      let its_row : get_or rows n [] ≡ m.row =
      here rows (rows_of before) m.row (rows_of after) (ap rows_of ms ∙ map-append (λ (k : MarkedRow). k.row) before (m ∷ after)) n (length-map before _ ∙ behind) [] in
      one-at (is_true_at told n) rows n places
      ∙ ap (λ (x : Truth). cond (is_true x) (get_or rows n [] ∷ rows_at rows places) (rows_at rows places)) (told-here tb t ta before m after ts ms n long behind)
      ∙ ap₂ (λ (r : Row) (rs : List Row). cond (is_true (unless_marked t m.marked)) (r ∷ rs) rs) its_row rest

  module _ (same : length truths ≡ length stored) (places : List ℕ) (is : places ≡ where_true told (range_with_len 0 (length told))) where
    long : length told ≡ length stored
    long = ap length is_told ∙ length-zip2 unless_marked truths (marks_of stored) (same ∙ sym (length-map stored _)) ∙ same

    -- the rows at the places are those without a mark of which this is True
    pub true-rows : rows_at (rows_of stored) places ≡ live_true truths stored
    true-rows = ap (rows_at (rows_of stored)) (is ∙ ap (λ (n : ℕ). where_true told (range_with_len 0 n)) long) ∙ true-from [] truths [] stored refl refl 0 refl refl same

    -- and each stands there
    pub true-below : AreBelow (length stored) places
    true-below =
        subst (AreBelow (length stored)) (sym is)
        (all-filter (λ (place : ℕ). place < length stored) (is_true_at told) (range_with_len 0 (length told)) (below (length stored) 0 (length told) (omega (arith, long))))
