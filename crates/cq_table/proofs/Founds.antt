-- Rows that are found by their places, and what marks at these places leave.
use Rattle.std.proofs.Common.{◌≡◌, ℕ, zero, suc, ◌+◌, ◌-◌, ◌<◌, ◌≤◌, Bool, true, not, cond, List, [], ◌∷◌, ◌++◌, map, filter, length, take, get_or, refl, sym, subst, ap, ap₂, ◌∙◌, arith}
use Rattle.std.specs.Prelude.{slice_index_or}
use Rattle.std.specs.List.{AllByRecursion}
use Rattle.std.proofs.lemmas.Simd.{map-map}
use Rattle.std.proofs.lemmas.List.{append-nil, append_assoc, map-append, length-append, length-map, get_or-append_right, nil_from_length, take_all, take_more}
use Rattle.cq_model_bags.proofs.Lists.{all-at, all-back}
use Rattle.cq_model_bags.proofs.Totals.{by_test}
use Rattle.cq_values.specs.Value.{Row}
use Rattle.cq_operators_conditions.specs.Kept.{places_where}
use Rattle.cq_segments_pieces.specs.Marked.{MarkedRow, live, live_from, rows_of, with_mark, with_marks}
use Rattle.cq_table.specs.Found.{AreLiveAt, AreThere, found_rows, is_live_at, passes}
use Rattle.cq_segments_pieces.proofs.Marks.{length-live_from, length-mark, live-unmarked, mark-behind, rows_of-mark}
use Rattle.cq_encodings_vectors.specs.Places.{AreBelow, rows_at}
use Rattle.cq_table_columns.specs.declared.front.Front.{Front}
use Rattle.cq_table_columns.specs.declared.front.Front.TheVariants as fronts
use Rattle.cq_table_columns.specs.Stored.{front_rows, marked_rows}
use Rattle.cq_table.proofs.Marking.{all_live-with_mark, live_at-behind, live_at_within}
use Rattle.cq_table.proofs.Segmenting.{same-there}

-- the places in a list and in the one behind it
pub places-append : {X : Type 0} (test : X → Bool) (n : ℕ) (xs ys : List X) → places_where n test (xs ++ ys) ≡ places_where n test xs ++ places_where (n + length xs) test ys
places-append test n [] ys = ap (λ (k : ℕ). places_where k test ys) (omega arith)
places-append test n (x ∷ xs) ys =
    let more : suc n + length xs ≡ n + length (x ∷ xs) = omega arith in
    let rest = places-append test (suc n) xs ys ∙ ap (λ (k : ℕ). places_where (suc n) test xs ++ places_where k test ys) more in
    by_test (test x)
    (λ k. rw k (ap (λ (ps : List ℕ). n ∷ ps) rest))
    (λ k. rw k rest)

-- a row with its mark
abbrev deleted : MarkedRow → MarkedRow
deleted m = record { row = m.row; marked = true }

is_live : (keep : Row → Bool) (m : MarkedRow) → passes keep m ≡ true → not m.marked ≡ true
is_live keep m is = by_test (not m.marked) (λ k. k) (λ k. absurd (let e = rw k at is in cc e))

longer : (n : ℕ) (front : List MarkedRow) (m : MarkedRow) → length front ≡ n → length (front ++ m ∷ []) ≡ suc n
longer n front m long = omega (arith, long, length-append front (m ∷ []))

-- marking the place of a row behind others
one_marked : (n : ℕ) (front : List MarkedRow) (m : MarkedRow) (stored : List MarkedRow) → length front ≡ n → with_mark n (front ++ m ∷ stored) ≡ (front ++ deleted m ∷ []) ++ stored
one_marked n front m stored long =
    let at : n ≡ length front + 0 = omega (arith, long) in
    ap (λ (k : ℕ). with_mark k (front ++ m ∷ stored)) at ∙ mark-behind front (m ∷ stored) 0 ∙ sym (append_assoc front (deleted m ∷ []) stored)

module _ (keep : Row → Bool) where
  -- there are as many places as live rows that pass
  pub length-places : (n : ℕ) (stored : List MarkedRow) → length (places_where n (passes keep) stored) ≡ length (filter keep (live stored))
  length-places n [] = refl
  length-places n (m ∷ stored) =
      let rest = length-places (suc n) stored in
      by_test m.marked
      (λ k. rw k rest)
      (λ k. by_test (keep m.row) (λ l. rw (k, l) (ap suc rest)) (λ l. rw (k, l) rest))

  -- the row with its mark, if it passes
  abbrev marked_if : MarkedRow → MarkedRow
  marked_if m = cond (passes keep m) (deleted m) m

  -- behind other rows, marks at the places of the rows that pass are on these, and on no other one
  marks-places : (n : ℕ) (front stored : List MarkedRow) → length front ≡ n → with_marks (places_where n (passes keep) stored) (front ++ stored) ≡ front ++ map marked_if stored
  marks-places n front [] long = refl
  marks-places n front (m ∷ stored) long =
      let places = places_where (suc n) (passes keep) stored in
      by_test (passes keep m)
      (λ k.
      let rest = marks-places (suc n) (front ++ deleted m ∷ []) stored (longer n front (deleted m) long) in
      rw k (ap (with_marks places) (one_marked n front m stored long) ∙ rest ∙ append_assoc front (deleted m ∷ []) (map marked_if stored)))
      (λ k.
      let rest = marks-places (suc n) (front ++ m ∷ []) stored (longer n front m long) in
      rw k (ap (with_marks places) (sym (append_assoc front (m ∷ []) stored)) ∙ rest ∙ append_assoc front (m ∷ []) (map marked_if stored)))

  -- then those that do not pass are left
  live-marked : (stored : List MarkedRow) → live (map marked_if stored) ≡ filter (λ row. not (keep row)) (live stored)
  live-marked [] = refl
  live-marked (m ∷ stored) =
      let rest = live-marked stored in
      by_test m.marked
      (λ k. rw k rest)
      (λ k. by_test (keep m.row) (λ l. rw (k, l) rest) (λ l. rw (k, l) (ap (λ (rs : List Row). m.row ∷ rs) rest)))

  -- marks at the places of the live rows that pass leave the others
  pub live-marks : (stored : List MarkedRow) → live (with_marks (places_where 0 (passes keep) stored) stored) ≡ filter (λ row. not (keep row)) (live stored)
  live-marks stored = ap live (marks-places 0 [] stored refl) ∙ live-marked stored

  -- the rows at these places are those that pass
  found-from : (n : ℕ) (whole front stored : List MarkedRow) → whole ≡ front ++ stored → length front ≡ n → found_rows whole (places_where n (passes keep) stored) ≡ filter keep (live stored)
  found-from n whole front [] is long = refl
  found-from n whole front (m ∷ stored) is long =
      let none : n - n ≡ 0 = omega arith in
      let parts : rows_of whole ≡ rows_of front ++ rows_of (m ∷ stored) = ap rows_of is ∙ map-append (λ (m : MarkedRow). m.row) front (m ∷ stored) in
      let here : get_or (rows_of whole) n [] ≡ m.row =
      ap (λ (rs : List Row). get_or rs n []) parts
      ∙ get_or-append_right (rows_of front) (rows_of (m ∷ stored)) n n [] (length-map front (λ (m : MarkedRow). m.row) ∙ long) (omega arith)
      ∙ ap (λ (i : ℕ). get_or (rows_of (m ∷ stored)) i []) none in
      let rest = found-from (suc n) whole (front ++ m ∷ []) stored (is ∙ sym (append_assoc front (m ∷ []) stored)) (longer n front m long) in
      by_test m.marked
      (λ k. rw k rest)
      (λ k. by_test (keep m.row) (λ l. rw (k, l) (ap₂ (λ (row : Row) (rs : List Row). row ∷ rs) here rest)) (λ l. rw (k, l) rest))

  pub found-places : (stored : List MarkedRow) → found_rows stored (places_where 0 (passes keep) stored) ≡ filter keep (live stored)
  found-places stored = found-from 0 stored [] stored refl refl

  -- each of them is live, and none stands twice
  live-behind : (n : ℕ) (front stored : List MarkedRow) → length front ≡ n → AreLiveAt (places_where n (passes keep) stored) (front ++ stored)
  live-behind n front [] long = tt
  live-behind n front (m ∷ stored) long =
      let places = places_where (suc n) (passes keep) stored in
      by_test (passes keep m)
      (λ k.
      let at : n ≡ length front + 0 = omega (arith, long) in
      let here : is_live_at n (front ++ m ∷ stored) ≡ true = ap (λ (i : ℕ). is_live_at i (front ++ m ∷ stored)) at ∙ live_at-behind 0 front (m ∷ stored) ∙ is_live keep m k in
      let rest = live-behind (suc n) (front ++ deleted m ∷ []) stored (longer n front (deleted m) long) in
      rw k (here, subst (AreLiveAt places) (sym (one_marked n front m stored long)) rest))
      (λ k. rw k (subst (AreLiveAt places) (append_assoc front (m ∷ []) stored) (live-behind (suc n) (front ++ m ∷ []) stored (longer n front m long))))

  pub live-places : (stored : List MarkedRow) → AreLiveAt (places_where 0 (passes keep) stored) stored
  live-places stored = live-behind 0 [] stored refl

  -- the places of live rows that pass, among all rows, by their places among the live ones
  placed-from : (n k : ℕ) (front : List ℕ) (stored : List MarkedRow) → length front ≡ k
      → map (λ i. slice_index_or (front ++ live_from n stored) i 0) (places_where k keep (live stored)) ≡ places_where n (passes keep) stored
  placed-from n k front [] long = refl
  placed-from n k front (m ∷ stored) long =
      by_test m.marked
      (λ e. rw e (placed-from (suc n) k front stored long))
      (λ e.
      let all = live_from (suc n) stored in
      let none : k - k ≡ 0 = omega arith in
      let here : get_or (front ++ n ∷ all) k 0 ≡ n = get_or-append_right front (n ∷ all) k k 0 long (omega arith) ∙ ap (λ (i : ℕ). get_or (n ∷ all) i 0) none in
      let more : length (front ++ n ∷ []) ≡ suc k = omega (arith, long, length-append front (n ∷ [])) in
      let same : (front ++ n ∷ []) ++ all ≡ front ++ n ∷ all = append_assoc front (n ∷ []) all in
      let rest = subst (λ (ps : List ℕ). map (λ i. slice_index_or ps i 0) (places_where (suc k) keep (live stored)) ≡ places_where (suc n) (passes keep) stored) same
      (placed-from (suc n) (suc k) (front ++ n ∷ []) stored more) in
      by_test (keep m.row)
      (λ l. rw (e, l) (ap₂ (λ (p : ℕ) (ps : List ℕ). p ∷ ps) here rest))
      (λ l. rw (e, l) rest))

  pub placed : (n : ℕ) (stored : List MarkedRow) → map (λ i. slice_index_or (live_from n stored) i 0) (places_where 0 keep (live stored)) ≡ places_where n (passes keep) stored
  placed n stored = placed-from n 0 [] stored refl

-- every place lies below the end
pub below-where : {X : Type 0} (test : X → Bool) (n end : ℕ) (xs : List X) → n + length xs ≤ end → AreBelow end (places_where n test xs)
below-where test n end [] le = tt
below-where test n end (x ∷ xs) le =
    let rest = below-where test (suc n) end xs (omega (arith, le)) in
    by_test (test x) (λ k. rw k (omega (arith, le), rest)) (λ k. rw k rest)

-- so does that of each live row
pub below-live : (n end : ℕ) (stored : List MarkedRow) → n + length stored ≤ end → AreBelow end (live_from n stored)
below-live n end [] le = tt
below-live n end (m ∷ stored) le =
    let rest = below-live (suc n) end stored (omega (arith, le)) in
    by_test m.marked (λ k. rw k rest) (λ k. rw k (omega (arith, le), rest))

-- the same places behind others
pub shifted : {X : Type 0} (test : X → Bool) (k n : ℕ) (xs : List X) → map (λ p. k + p) (places_where n test xs) ≡ places_where (k + n) test xs
shifted test k n [] = refl
shifted test k n (x ∷ xs) =
    let one : k + suc n ≡ suc (k + n) = omega arith in
    let rest = shifted test k (suc n) xs ∙ ap (λ (m : ℕ). places_where m test xs) one in
    by_test (test x) (λ e. rw e (ap (λ (ps : List ℕ). (k + n) ∷ ps) rest)) (λ e. rw e rest)

-- where a test keeps no live row, none passes
pub none-pass : (keep : Row → Bool) (n : ℕ) (stored : List MarkedRow) → filter keep (live stored) ≡ [] → places_where n (passes keep) stored ≡ []
none-pass keep n stored none = nil_from_length (places_where n (passes keep) stored) (length-places keep n stored ∙ ap length none)

-- the rows of a front, with a mark or without
pub front-live : (front : Front) → live (marked_rows front) ≡ front_rows front
front-live (fronts.Rows rows) = live-unmarked rows.now
front-live (fronts.Columns columns) = live-unmarked columns.now
front-live (fronts.Marked piece) = refl
front-live (fronts.Written front) = refl

module _ (keep : Row → Bool) (before : ℕ) (stored : List MarkedRow) where
  -- the places that a condition finds in a front, behind others
  pub placed-behind : map (λ i. before + slice_index_or (live_from 0 stored) i 0) (places_where 0 keep (live stored)) ≡ places_where before (passes keep) stored
  placed-behind =
      sym (map-map (λ (p : ℕ). before + p) (λ (i : ℕ). slice_index_or (live_from 0 stored) i 0) (places_where 0 keep (live stored)))
      ∙ ap (map (λ (p : ℕ). before + p)) (placed keep 0 stored) ∙ shifted (passes keep) before 0 stored
      ∙ ap (λ (n : ℕ). places_where n (passes keep) stored) (omega arith)

-- where a condition keeps no row of a front, nothing is put behind what was found
pub none-placed : (keep : Row → Bool) (before : ℕ) (front : Front) (places found : List ℕ) → length places ≡ 0 → places ≡ places_where 0 keep (front_rows front) → found ≡ found ++ places_where before (passes keep) (marked_rows front)
none-placed keep before front places found none is =
    let at : ℕ → ℕ = λ i. before + slice_index_or (live_from 0 (marked_rows front)) i 0 in
    let all = placed-behind keep before (marked_rows front) in
    sym (append-nil found) ∙ ap (λ (ps : List ℕ). found ++ ps) (ap (map at) (sym (nil_from_length places none) ∙ is ∙ ap (places_where 0 keep) (sym (front-live front))) ∙ all)

-- a place that a condition keeps is there
kept_there : (keep : Row → Bool) (rows : List Row) (places : List ℕ) (i : ℕ) → places ≡ places_where 0 keep rows → i < length places → get_or places i 0 < length rows
kept_there keep rows places i is there =
    all-at (λ (n : ℕ). n < length rows) places i 0 there (subst (AreBelow (length rows)) (sym is) (below-where keep 0 (length rows) rows (omega arith)))

-- and the place of a live row lies below all
live_there_at : (stored : List MarkedRow) (live : List ℕ) (i : ℕ) → live ≡ live_from 0 stored → i < length live → get_or live i 0 < length stored
live_there_at stored live i is there =
    all-at (λ (n : ℕ). n < length stored) live i 0 there (subst (AreBelow (length stored)) (sym is) (below-live 0 (length stored) stored (omega arith)))

-- one place more
pub placed-more : (f : ℕ → ℕ) (before found places : List ℕ) (i : ℕ) → i < length places → found ≡ before ++ map f (take i places) → (place : ℕ) → place ≡ f (get_or places i 0)
    → found ++ place ∷ [] ≡ before ++ map f (take (i + 1) places)
placed-more f before found places i there so_far place is =
    ap₂ (λ (ps : List ℕ) (p : ℕ). ps ++ p ∷ []) so_far is ∙ append_assoc before (map f (take i places)) (f (get_or places i 0) ∷ [])
    ∙ ap (λ (ps : List ℕ). before ++ ps) (sym (ap (map f) (take_more places i 0 there) ∙ map-append f (take i places) (get_or places i 0 ∷ [])))

-- the places of the live rows of a front, and those among them that a condition keeps
pub record KeptAmong (keep : Row → Bool) (stored : List MarkedRow) (all places : List ℕ) : Type 0 where
  pub are : all ≡ live_from 0 stored
  pub kept : places ≡ places_where 0 keep (live stored)

pub kept_in : (keep : Row → Bool) (front : Front) (all places given : List ℕ) → all ≡ live_from 0 (marked_rows front) → places ≡ given → given ≡ places_where 0 keep (front_rows front)
    → KeptAmong keep (marked_rows front) all places
kept_in keep front all places given are same kept = record { are = are; kept = same ∙ kept ∙ ap (places_where 0 keep) (sym (front-live front)) }

module _ {keep : Row → Bool} {stored : List MarkedRow} {all places : List ℕ} (k : KeptAmong keep stored all places) where
  module _ {i from : ℕ} (there : i < length places) (is : from ≡ get_or places i 0) where
    -- one that is kept is that of a live row
    pub kept_live : from < length all
    kept_live = omega (arith, is, kept_there keep (live stored) places i k.kept there, ap length k.are, length-live_from 0 stored)

    module _ {at : ℕ} (read : at ≡ get_or all from at) where
      kept_here : at ≡ get_or all from 0
      kept_here = read ∙ same-there all from at 0 kept_live

      -- which stands at this place among all rows
      pub kept_at : at ≡ slice_index_or all (get_or places i 0) 0
      kept_at = kept_here ∙ ap (λ (n : ℕ). get_or all n 0) is

      -- and it is one of theirs
      pub kept_within : at < length stored
      kept_within = omega (arith, kept_here, live_there_at stored all from k.are kept_live)

  -- all that are kept are those that pass
  pub placed-all : (before i : ℕ) → length places ≤ i → map (λ j. before + slice_index_or all j 0) (take i places) ≡ places_where before (passes keep) stored
  placed-all before i end =
      ap (map (λ (j : ℕ). before + slice_index_or all j 0)) (take_all i places end ∙ k.kept)
      ∙ ap (λ (ps : List ℕ). map (λ (j : ℕ). before + slice_index_or ps j 0) (places_where 0 keep (live stored))) k.are
      ∙ placed-behind keep before stored

-- the places in a front, and then those in what is left, are the places in all
pub places-split : (test : MarkedRow → Bool) (before span : ℕ) (front rest whole : List MarkedRow) → whole ≡ front ++ rest → span ≡ length front → (found more : List ℕ) → more ≡ found ++ places_where before test front
    → more ++ places_where (before + span) test rest ≡ found ++ places_where before test whole
places-split test before span front rest whole parts long found more is =
    ap (λ (ps : List ℕ). ps ++ places_where (before + span) test rest) is
    ∙ append_assoc found (places_where before test front) (places_where (before + span) test rest)
    ∙ ap (λ (ps : List ℕ). found ++ ps)
    (ap (λ (n : ℕ). places_where before test front ++ places_where (before + n) test rest) long ∙ sym (places-append test before front rest) ∙ ap (places_where before test) (sym parts))

-- what holds of all rows holds of those behind a front
pub all-behind : (P : Row → Type 0) (whole front rest : List Row) → whole ≡ front ++ rest → AllByRecursion P whole → AllByRecursion P rest
all-behind P whole front rest parts all = all-back P front rest (subst (AllByRecursion P) parts all)

-- marks one after the other
pub marks-more : (places : List ℕ) (place : ℕ) (stored : List MarkedRow) → with_marks (places ++ place ∷ []) stored ≡ with_mark place (with_marks places stored)
marks-more [] place stored = refl
marks-more (p ∷ places) place stored = marks-more places place (with_mark p stored)

-- places of live rows are there
pub live_there : (places : List ℕ) (stored : List MarkedRow) → AreLiveAt places stored → AreThere places stored
live_there [] stored live = tt
live_there (place ∷ places) stored live = (
  live_at_within place stored live.0,
  subst (λ (n : ℕ). AllByRecursion (λ p. p < n) places) (length-mark stored place) (live_there places (with_mark place stored) live.1),
)

-- what holds of the live rows holds of those at places of live rows
live_row_at : (P : Row → Type 0) (place : ℕ) (stored : List MarkedRow) → is_live_at place stored ≡ true → AllByRecursion P (live stored) → P (slice_index_or (rows_of stored) place [])
live_row_at P place [] is all = absurd (cc is)
live_row_at P zero (m ∷ stored) is all =
    by_test m.marked
    (λ k. absurd (let e = rw k at is in cc e))
    (λ k. let both = rw k at all in both.0)
live_row_at P (suc place) (m ∷ stored) is all =
    by_test m.marked
    (λ k. live_row_at P place stored is (let rest = rw k at all in rest))
    (λ k. live_row_at P place stored is (let both = rw k at all in both.1))

pub all-found : (P : Row → Type 0) (places : List ℕ) (stored : List MarkedRow) → AreLiveAt places stored → AllByRecursion P (live stored) → AllByRecursion P (found_rows stored places)
all-found P [] stored are all = tt
all-found P (place ∷ places) stored are all = (
  live_row_at P place stored are.0 all,
  subst (λ (rows : List Row). AllByRecursion P (rows_at rows places)) (rows_of-mark stored place) (all-found P places (with_mark place stored) are.1 (all_live-with_mark P place stored all)),
)
