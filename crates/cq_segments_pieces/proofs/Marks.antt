-- Rows with their marks.
use Rattle.std.proofs.Common.{◌≡◌, ℕ, zero, suc, ◌+◌, ◌-◌, ◌<◌, Bool, true, false, if◌then◌else◌, List, [], ◌∷◌, ◌++◌, length, drop, take, get_or, replicate, refl, sym, ap, ap₂, ◌∙◌, arith}
use Rattle.std.specs.Prelude.{slice_set}
use Rattle.std.proofs.Math.Seq.{get_or-append_seam}
use Rattle.std.proofs.lemmas.List.{append-nil, drop-map, drop_more, get_or-map, length-drop, length-take-le, take-append-drop, take-map, take_more}
use Rattle.cq_model_bags.proofs.Totals.{by_test}
use Rattle.cq_values.specs.Value.{Row}
use Rattle.cq_segments_pieces.specs.Marked.{AreCounted, MarkedRow, live, live_from, marked_count, marks_of, rows_of, unmarked, with_flags, with_mark}

-- ---- rows by their flags

pub rows_of-unmarked : (rows : List Row) → rows_of (unmarked rows) ≡ rows
rows_of-unmarked [] = refl
rows_of-unmarked (row ∷ rows) = ap (λ l. row ∷ l) (rows_of-unmarked rows)

-- the rows are there whatever the flags
pub rows_of-flags : (rows : List Row) (flags : List Bool) → rows_of (with_flags rows flags) ≡ rows
rows_of-flags [] flags = refl
rows_of-flags (row ∷ rows) [] = rows_of-unmarked (row ∷ rows)
rows_of-flags (row ∷ rows) (flag ∷ flags) = ap (λ l. row ∷ l) (rows_of-flags rows flags)

-- and the flags, where each row has one
pub marks_of-flags : (rows : List Row) (flags : List Bool) → length flags ≡ length rows → marks_of (with_flags rows flags) ≡ flags
marks_of-flags [] [] same = refl
marks_of-flags [] (flag ∷ flags) same = absurd (omega (arith, same))
marks_of-flags (row ∷ rows) [] same = absurd (omega (arith, same))
marks_of-flags (row ∷ rows) (flag ∷ flags) same = ap (λ l. flag ∷ l) (marks_of-flags rows flags (omega (arith, same)))

pub length-rows_of : (stored : List MarkedRow) → length (rows_of stored) ≡ length stored
length-rows_of [] = refl
length-rows_of (m ∷ stored) = ap suc (length-rows_of stored)

pub length-flags : (rows : List Row) (flags : List Bool) → length (with_flags rows flags) ≡ length rows
length-flags rows flags = sym (length-rows_of (with_flags rows flags)) ∙ ap length (rows_of-flags rows flags)

-- no flag is set
pub clear-flags : (rows : List Row) → with_flags rows (replicate (length rows) false) ≡ unmarked rows
clear-flags [] = refl
clear-flags (row ∷ rows) = ap (λ l. record { row = row; marked = false } ∷ l) (clear-flags rows)

-- a flag that is set is a mark
pub set-flag : (rows : List Row) (flags : List Bool) (place : ℕ) → length flags ≡ length rows → with_flags rows (slice_set flags place true) ≡ with_mark place (with_flags rows flags)
set-flag [] [] place same = refl
set-flag [] (flag ∷ flags) place same = absurd (omega (arith, same))
set-flag (row ∷ rows) [] place same = absurd (omega (arith, same))
set-flag (row ∷ rows) (flag ∷ flags) zero same = refl
set-flag (row ∷ rows) (flag ∷ flags) (suc place) same = ap (λ l. record { row = row; marked = flag } ∷ l) (set-flag rows flags place (omega (arith, same)))

-- without a flag there is no mark
pub flags-none : (rows : List Row) → with_flags rows [] ≡ unmarked rows
flags-none [] = refl
flags-none (row ∷ rows) = refl

unmarked-take : (n : ℕ) (rows : List Row) → unmarked (take n rows) ≡ take n (unmarked rows)
unmarked-take n rows = sym (take-map (λ (row : Row). record { row = row; marked = false }) n rows)

unmarked-drop : (n : ℕ) (rows : List Row) → unmarked (drop n rows) ≡ drop n (unmarked rows)
unmarked-drop n rows = sym (drop-map (λ (row : Row). record { row = row; marked = false }) n rows)

-- the first rows by the first flags
pub take-flags : (rows : List Row) (flags : List Bool) (n : ℕ) → with_flags (take n rows) (take n flags) ≡ take n (with_flags rows flags)
take-flags rows flags zero = refl
take-flags [] flags (suc n) = refl
take-flags (row ∷ rows) [] (suc n) = ap (λ l. record { row = row; marked = false } ∷ l) (unmarked-take n rows)
take-flags (row ∷ rows) (flag ∷ flags) (suc n) = ap (λ l. record { row = row; marked = flag } ∷ l) (take-flags rows flags n)

-- and those behind them by the flags behind them
pub drop-flags : (rows : List Row) (flags : List Bool) (n : ℕ) → with_flags (drop n rows) (drop n flags) ≡ drop n (with_flags rows flags)
drop-flags rows flags zero = refl
drop-flags [] flags (suc n) = refl
drop-flags (row ∷ rows) [] (suc n) = flags-none (drop n rows) ∙ unmarked-drop n rows
drop-flags (row ∷ rows) (flag ∷ flags) (suc n) = drop-flags rows flags n

-- ---- what is counted

pub length-marks_of : (stored : List MarkedRow) → length (marks_of stored) ≡ length stored
length-marks_of [] = refl
length-marks_of (m ∷ stored) = ap suc (length-marks_of stored)

-- each row has a mark or is live
pub length-live : (stored : List MarkedRow) → marked_count stored + length (live stored) ≡ length stored
length-live [] = refl
length-live (m ∷ stored) = by_test m.marked (λ e. rw e (omega (arith, length-live stored))) (λ e. rw e (omega (arith, length-live stored)))

-- where no mark is counted none is there
pub none-marked : (stored : List MarkedRow) → marked_count stored ≡ 0 → stored ≡ unmarked (rows_of stored)
none-marked [] none = refl
none-marked (m ∷ stored) none = by_test m.marked
    (λ e. absurd (omega (arith, rw e at none)))
    (λ e. ap₂ (λ b l. record { row = m.row; marked = b } ∷ l) e (none-marked stored (omega (arith, none))))

pub count-unmarked : (rows : List Row) → marked_count (unmarked rows) ≡ 0
count-unmarked [] = refl
count-unmarked (row ∷ rows) = omega (arith, count-unmarked rows)

pub live-unmarked : (rows : List Row) → live (unmarked rows) ≡ rows
live-unmarked [] = refl
live-unmarked (row ∷ rows) = ap (λ l. row ∷ l) (live-unmarked rows)

-- ---- a mark more

-- a row that has a mark keeps it
pub mark-again : (stored : List MarkedRow) (place : ℕ) → get_or (marks_of stored) place false ≡ true → with_mark place stored ≡ stored
mark-again [] place marked = refl
mark-again (m ∷ stored) zero marked = ap (λ b. record { row = m.row; marked = b } ∷ stored) (sym marked)
mark-again (m ∷ stored) (suc place) marked = ap (λ l. m ∷ l) (mark-again stored place marked)

-- one that has none is counted once more
pub count-mark : (stored : List MarkedRow) (place : ℕ) → place < length stored → get_or (marks_of stored) place false ≡ false → marked_count (with_mark place stored) ≡ marked_count stored + 1
count-mark [] place lt live = absurd (omega (arith, lt))
count-mark (m ∷ stored) zero lt live = rw live (omega arith)
count-mark (m ∷ stored) (suc place) lt live = omega (arith, count-mark stored place (omega (arith, lt)) live)

pub rows_of-mark : (stored : List MarkedRow) (place : ℕ) → rows_of (with_mark place stored) ≡ rows_of stored
rows_of-mark [] place = refl
rows_of-mark (m ∷ stored) zero = refl
rows_of-mark (m ∷ stored) (suc place) = ap (λ l. m.row ∷ l) (rows_of-mark stored place)

pub length-mark : (stored : List MarkedRow) (place : ℕ) → length (with_mark place stored) ≡ length stored
length-mark stored place = sym (length-rows_of (with_mark place stored)) ∙ ap length (rows_of-mark stored place) ∙ length-rows_of stored

-- ---- lists behind each other

pub live-append : (front back : List MarkedRow) → live (front ++ back) ≡ live front ++ live back
live-append [] back = refl
live-append (m ∷ front) back = by_test m.marked (λ e. rw (e, live-append front back) refl) (λ e. rw (e, live-append front back) refl)

pub count-append : (front back : List MarkedRow) → marked_count (front ++ back) ≡ marked_count front + marked_count back
count-append [] back = omega arith
count-append (m ∷ front) back = omega (arith, count-append front back)

pub rows_of-append : (front back : List MarkedRow) → rows_of (front ++ back) ≡ rows_of front ++ rows_of back
rows_of-append [] back = refl
rows_of-append (m ∷ front) back = ap (λ l. m.row ∷ l) (rows_of-append front back)

pub unmarked-append : (front back : List Row) → unmarked (front ++ back) ≡ unmarked front ++ unmarked back
unmarked-append [] back = refl
unmarked-append (row ∷ front) back = ap (λ l. record { row = row; marked = false } ∷ l) (unmarked-append front back)

-- a mark behind the front is one of those behind it
pub mark-behind : (front back : List MarkedRow) (place : ℕ) → with_mark (length front + place) (front ++ back) ≡ front ++ with_mark place back
mark-behind [] back place = ap (λ (n : ℕ). with_mark n back) (omega arith)
mark-behind (m ∷ front) back place = ap (λ (n : ℕ). with_mark n (m ∷ front ++ back)) {x = length (m ∷ front) + place} {y = suc (length front + place)} (omega arith) ∙ ap (λ l. m ∷ l) (mark-behind front back place)

-- and one in front is one of those in front
pub mark-in-front : (front back : List MarkedRow) (place : ℕ) → place < length front → with_mark place (front ++ back) ≡ with_mark place front ++ back
mark-in-front [] back place lt = absurd (omega (arith, lt))
mark-in-front (m ∷ front) back zero lt = refl
mark-in-front (m ∷ front) back (suc place) lt = ap (λ l. m ∷ l) (mark-in-front front back place (omega (arith, lt)))

-- the marks in front and those behind
pub count-parts : (n : ℕ) (stored : List MarkedRow) → marked_count (take n stored) + marked_count (drop n stored) ≡ marked_count stored
count-parts n stored = sym (count-append (take n stored) (drop n stored)) ∙ ap marked_count (take-append-drop n stored)

-- the rows behind the first ones are counted without the marks of those
pub counted-behind : (rows : List Row) (flags : List Bool) (marked n : ℕ) → AreCounted rows flags marked → AreCounted (drop n rows) (drop n flags) (marked - marked_count (take n (with_flags rows flags)))
counted-behind rows flags marked n are = record {
  long = length-drop n flags ∙ ap (λ (k : ℕ). k - n) are.long ∙ sym (length-drop n rows);
  count = omega (arith, are.count, count-parts n (with_flags rows flags), ap marked_count (drop-flags rows flags n));
}

-- ---- the places of live rows

pub live_from-append : (k : ℕ) (front back : List MarkedRow) → live_from k (front ++ back) ≡ live_from k front ++ live_from (k + length front) back
live_from-append k [] back = ap (λ (n : ℕ). live_from n back) (omega arith)
live_from-append k (m ∷ front) back =
    let later : live_from (suc k) (front ++ back) ≡ live_from (suc k) front ++ live_from (k + length (m ∷ front)) back =
    live_from-append (suc k) front back ∙ ap (λ (n : ℕ). live_from (suc k) front ++ live_from n back) (omega arith) in
    by_test m.marked (λ e. rw (e, later) refl) (λ e. rw (e, later) refl)

-- there are as many as live rows
pub length-live_from : (k : ℕ) (stored : List MarkedRow) → length (live_from k stored) ≡ length (live stored)
length-live_from k [] = refl
length-live_from k (m ∷ stored) = by_test m.marked (λ e. rw (e, length-live_from (suc k) stored) refl) (λ e. rw (e, length-live_from (suc k) stored) refl)

-- ---- one row more

abbrev unless : MarkedRow
unless = record { row = []; marked = false }

module _ (stored : List MarkedRow) (place : ℕ) (lt : place < length stored) where
  abbrev here : MarkedRow
  here = get_or stored place unless

  next : take (place + 1) stored ≡ take place stored ++ here ∷ []
  next = take_more stored place unless lt

  flag_here : here.marked ≡ get_or (marks_of stored) place false
  flag_here = sym (get_or-map (λ (m : MarkedRow). m.marked) stored place unless false lt)

  before : length (take place stored) ≡ place
  before = length-take-le place stored (omega (arith, lt))

  one_place : (k : ℕ) → here.marked ≡ false → live_from k (here ∷ []) ≡ k ∷ []
  one_place k e = rw e refl

  no_place : (k : ℕ) → here.marked ≡ true → live_from k (here ∷ []) ≡ []
  no_place k e = rw e refl

  one_count : (flag : Bool) → here.marked ≡ flag → marked_count (here ∷ []) ≡ (if flag then 1 else 0)
  one_count flag e = rw e (by_test flag (λ f. rw f refl) (λ f. rw f refl))

  -- one row more has a mark or not
  pub count-next : (flag : Bool) → get_or (marks_of stored) place false ≡ flag → marked_count (take (place + 1) stored) ≡ marked_count (take place stored) + (if flag then 1 else 0)
  count-next flag e = ap marked_count next ∙ count-append (take place stored) (here ∷ []) ∙ ap (λ (k : ℕ). marked_count (take place stored) + k) (one_count flag (flag_here ∙ e))

  -- the place of a live row comes behind those before it
  pub live_from-kept : get_or (marks_of stored) place false ≡ false → live_from 0 (take (place + 1) stored) ≡ live_from 0 (take place stored) ++ place ∷ []
  live_from-kept free =
      ap (live_from 0) next ∙ live_from-append 0 (take place stored) (here ∷ [])
      ∙ ap (λ (n : ℕ). live_from 0 (take place stored) ++ live_from n (here ∷ [])) (omega (arith, before))
      ∙ ap (λ l. live_from 0 (take place stored) ++ l) (one_place place (flag_here ∙ free))

  -- and that of a marked one does not
  pub live_from-passed : get_or (marks_of stored) place false ≡ true → live_from 0 (take (place + 1) stored) ≡ live_from 0 (take place stored)
  live_from-passed marked =
      ap (live_from 0) next ∙ live_from-append 0 (take place stored) (here ∷ [])
      ∙ ap (λ l. live_from 0 (take place stored) ++ l) (no_place (0 + length (take place stored)) (flag_here ∙ marked))
      ∙ append-nil (live_from 0 (take place stored))

  after : here.marked ≡ false → live_from place (here ∷ drop (place + 1) stored) ≡ place ∷ live_from (suc place) (drop (place + 1) stored)
  after e = rw e refl

  -- the place of a live row stands behind as many as there are live rows before it
  pub live_from-there : get_or (marks_of stored) place false ≡ false → get_or (live_from 0 stored) (length (live_from 0 (take place stored))) 0 ≡ place
  live_from-there free =
      let front = live_from 0 (take place stored) in
      let whole : live_from 0 stored ≡ front ++ place ∷ live_from (suc place) (drop (place + 1) stored) =
      ap (live_from 0) (sym (take-append-drop place stored) ∙ ap (λ l. take place stored ++ l) (drop_more stored place unless lt))
      ∙ live_from-append 0 (take place stored) (here ∷ drop (place + 1) stored)
      ∙ ap (λ (n : ℕ). front ++ live_from n (here ∷ drop (place + 1) stored)) {x = 0 + length (take place stored)} {y = place} (omega (arith, before))
      ∙ ap (λ l. front ++ l) (after (flag_here ∙ free)) in
      ap (λ l. get_or l (length front) 0) whole ∙ get_or-append_seam front place (live_from (suc place) (drop (place + 1) stored)) 0

-- what is read of the row at a place
pub mark-at : (stored : List MarkedRow) (place : ℕ) (d : MarkedRow) → place < length stored → get_or (marks_of stored) place false ≡ (get_or stored place d).marked
mark-at stored place d lt = get_or-map (λ (m : MarkedRow). m.marked) stored place d false lt

pub row-at : (stored : List MarkedRow) (place : ℕ) (d : MarkedRow) → place < length stored → get_or (rows_of stored) place [] ≡ (get_or stored place d).row
row-at stored place d lt = get_or-map (λ (m : MarkedRow). m.row) stored place d [] lt
