-- Rows and marks in lists that stand one behind the other, the write store last.
use Rattle.std.proofs.Common.{◌≡◌, ℕ, zero, suc, ◌+◌, ◌-◌, ◌<◌, ◌≤◌, List, [], ◌∷◌, ◌++◌, map, take, length, get_or, refl, sym, ap, ◌∙◌, arith}
use Rattle.std.specs.Prelude.{slice_set}
use Rattle.std.proofs.lemmas.List.{append-nil, append_assoc, length-append, length-map, take_all, take_more}
use Rattle.cq_segments_pieces.specs.Marked.{MarkedRow, marked_count, rows_of, with_mark}
use Rattle.cq_segments_pieces.specs.Pieces.{joined}
use Rattle.cq_table.specs.Reached.{HasReached, IsReached}
use Rattle.cq_table.specs.declared.placing.Reached.{Reached}
use Rattle.cq_segments_pieces.proofs.Marks.{count-append, length-live, mark-behind, mark-in-front}

-- lists behind others
pub joined-append : {X : Type 0} (xs ys : List (List X)) → joined (xs ++ ys) ≡ joined xs ++ joined ys
joined-append [] ys = refl
joined-append (x ∷ xs) ys = ap (λ zs. x ++ zs) (joined-append xs ys) ∙ sym (append_assoc x (joined xs) (joined ys))

-- the first lists are no longer than all
pub joined-front : {X : Type 0} (i : ℕ) (lists : List (List X)) → length (joined (take i lists)) ≤ length (joined lists)
joined-front zero [] = omega arith
joined-front (suc i) [] = omega arith
joined-front zero (list ∷ lists) = omega arith
joined-front (suc i) (list ∷ lists) = omega (arith, joined-front i lists, length-append list (joined (take i lists)), length-append list (joined lists))

module _ (lists : List (List MarkedRow)) (i : ℕ) (list : List MarkedRow) (more : i < length lists) (is : list ≡ get_or lists i list) where
  -- the next list stands behind those so far
  next : joined (take (i + 1) lists) ≡ joined (take i lists) ++ list
  next =
      ap joined (take_more lists i list more ∙ ap (λ l. take i lists ++ l ∷ []) (sym is))
      ∙ joined-append (take i lists) (list ∷ []) ∙ ap (λ rs. joined (take i lists) ++ rs) (append-nil list)

  pub long-next : length (joined (take (i + 1) lists)) ≡ length (joined (take i lists)) + length list
  long-next = ap length next ∙ length-append (joined (take i lists)) list

  pub long-within : length (joined (take i lists)) + length list ≤ length (joined lists)
  long-within = omega (arith, long-next, joined-front (i + 1) lists)

  pub counted-next : marked_count (joined (take (i + 1) lists)) ≡ marked_count (joined (take i lists)) + marked_count list
  counted-next = ap marked_count next ∙ count-append (joined (take i lists)) list

  pub counted-within : marked_count (joined (take i lists)) + marked_count list ≤ length (joined lists)
  counted-within = omega (arith, counted-next, long-next, joined-front (i + 1) lists, length-live (joined (take (i + 1) lists)))

-- within a list the default plays no part
pub same-there : {X : Type 0} (xs : List X) (i : ℕ) (d e : X) → i < length xs → get_or xs i d ≡ get_or xs i e
same-there [] i d e there = absurd (omega (arith, there))
same-there (x ∷ xs) zero d e there = refl
same-there (x ∷ xs) (suc i) d e there = same-there xs i d e (omega (arith, there))

-- a row in front of others
row-front : (place : ℕ) (xs ys : List MarkedRow) → place < length xs → get_or (rows_of (xs ++ ys)) place [] ≡ get_or (rows_of xs) place []
row-front place [] ys lt = absurd (omega (arith, lt))
row-front zero (x ∷ xs) ys lt = refl
row-front (suc place) (x ∷ xs) ys lt = row-front place xs ys (omega (arith, lt))

-- and behind them
row-behind : (place : ℕ) (xs ys : List MarkedRow) → get_or (rows_of (xs ++ ys)) (length xs + place) [] ≡ get_or (rows_of ys) place []
row-behind place [] ys = ap (λ (k : ℕ). get_or (rows_of ys) k []) (omega arith)
row-behind place (x ∷ xs) ys =
    let one : length (x ∷ xs) + place ≡ suc (length xs + place) = omega arith in
    ap (λ (k : ℕ). get_or (rows_of (x ∷ xs ++ ys)) k []) one ∙ row-behind place xs ys

-- a row in one of the lists
joined-row : (lists : List (List MarkedRow)) (at place : ℕ) → at < length lists → place < length (get_or lists at [])
    → get_or (rows_of (joined lists)) (length (joined (take at lists)) + place) [] ≡ get_or (rows_of (get_or lists at [])) place []
joined-row [] at place there within = absurd (omega (arith, there))
joined-row (list ∷ lists) zero place there within =
    ap (λ (k : ℕ). get_or (rows_of (list ++ joined lists)) k []) (omega arith) ∙ row-front place list (joined lists) within
joined-row (list ∷ lists) (suc at) place there within =
    let far : length (joined (take (suc at) (list ∷ lists))) + place ≡ length list + (length (joined (take at lists)) + place) = omega (arith, length-append list (joined (take at lists))) in
    ap (λ (k : ℕ). get_or (rows_of (list ++ joined lists)) k []) far ∙ row-behind (length (joined (take at lists)) + place) list (joined lists)
    ∙ joined-row lists at place (omega (arith, there)) within

-- a mark in one of the lists
joined-mark : (lists : List (List MarkedRow)) (at place : ℕ) → at < length lists → place < length (get_or lists at [])
    → joined (slice_set lists at (with_mark place (get_or lists at []))) ≡ with_mark (length (joined (take at lists)) + place) (joined lists)
joined-mark [] at place there within = absurd (omega (arith, there))
joined-mark (list ∷ lists) zero place there within =
    sym (ap (λ (k : ℕ). with_mark k (list ++ joined lists)) (omega arith) ∙ mark-in-front list (joined lists) place within)
joined-mark (list ∷ lists) (suc at) place there within =
    let rest = joined-mark lists at place (omega (arith, there)) within in
    let far : length (joined (take (suc at) (list ∷ lists))) + place ≡ length list + (length (joined (take at lists)) + place) = omega (arith, length-append list (joined (take at lists))) in
    ap (λ (rs : List MarkedRow). list ++ rs) rest
    ∙ sym (ap (λ (k : ℕ). with_mark k (list ++ joined lists)) far ∙ mark-behind list (joined lists) (length (joined (take at lists)) + place))

-- a mark leaves each list as long
pub lengths-mark : (lists : List (List MarkedRow)) (at : ℕ) (list : List MarkedRow) → at < length lists → length list ≡ length (get_or lists at []) → map length (slice_set lists at list) ≡ map length lists
lengths-mark [] at list there same = refl
lengths-mark (l ∷ lists) zero list there same = ap (λ n. n ∷ map length lists) same
lengths-mark (l ∷ lists) (suc at) list there same = ap (λ ns. length l ∷ ns) (lengths-mark lists at list (omega (arith, there)) same)

module _ (lists : List (List MarkedRow)) (written : List MarkedRow) (reached : Reached) (place : ℕ) (is : IsReached lists reached) (has : HasReached lists place reached) where
  -- the place behind the lists before the one that was reached
  far : reached.before + (place - reached.before) ≡ place
  far = omega (arith, has.behind)

  module _ (there : reached.segment < length lists) where
    abbrev here : List MarkedRow
    here = get_or lists reached.segment []

    own : place ≡ length (joined (take reached.segment lists)) + (place - reached.before)
    own = omega (arith, far, is.before)

    within : place < length (joined lists)
    within = omega (arith, own, has.inside there, long-within lists reached.segment here there (same-there lists reached.segment [] here there))

    -- the mark of a row in a segment is that of the row at the place
    pub marked-in : (list : List MarkedRow) → list ≡ with_mark (place - reached.before) here → joined (slice_set lists reached.segment list) ++ written ≡ with_mark place (joined lists ++ written)
    marked-in list marked =
        let at = place - reached.before in
        let one = ap (λ l. joined (slice_set lists reached.segment l)) marked ∙ joined-mark lists reached.segment at there (has.inside there) ∙ ap (λ (k : ℕ). with_mark k (joined lists)) (sym own) in
        ap (λ rs. rs ++ written) one ∙ sym (mark-in-front (joined lists) written place within)

    -- the row in a segment is the row at the place
    pub row-in : (list : List MarkedRow) → list ≡ get_or lists reached.segment list → get_or (rows_of list) (place - reached.before) [] ≡ get_or (rows_of (joined lists ++ written)) place []
    row-in list at =
        let same : list ≡ here = at ∙ same-there lists reached.segment list [] there in
        ap (λ l. get_or (rows_of l) (place - reached.before) []) same
        ∙ sym (row-front place (joined lists) written within ∙ ap (λ (k : ℕ). get_or (rows_of (joined lists)) k []) own
        ∙ joined-row lists reached.segment (place - reached.before) there (has.inside there))

    -- it is there
    pub inside : (list : List MarkedRow) → list ≡ get_or lists reached.segment list → place - reached.before < length list
    inside list at = omega (arith, has.inside there, ap length (at ∙ same-there lists reached.segment list [] there))

  module _ (end : length lists ≤ reached.segment) where
    all : place ≡ length (joined lists) + (place - reached.before)
    all = omega (arith, far, is.before ∙ ap (λ ls. length (joined ls)) (take_all reached.segment lists end))

    -- and so it is in the write store
    pub marked-written : joined lists ++ with_mark (place - reached.before) written ≡ with_mark place (joined lists ++ written)
    marked-written = sym (ap (λ (k : ℕ). with_mark k (joined lists ++ written)) all ∙ mark-behind (joined lists) written (place - reached.before))

    pub row-written : get_or (rows_of written) (place - reached.before) [] ≡ get_or (rows_of (joined lists ++ written)) place []
    row-written = sym (ap (λ (k : ℕ). get_or (rows_of (joined lists ++ written)) k []) all ∙ row-behind (place - reached.before) (joined lists) written)

    pub inside-written : place < length (joined lists ++ written) → place - reached.before < length written
    inside-written lt = omega (arith, lt, all, length-append (joined lists) written)

-- lists that are as long have as many items before a list
as-long : {X : Type 0} (xs ys : List (List X)) (k : ℕ) → map length xs ≡ map length ys → length (joined (take k xs)) ≡ length (joined (take k ys))
as-long xs ys zero same = refl
as-long [] [] (suc k) same = refl
as-long [] (y ∷ ys) (suc k) same = absurd (cc same)
as-long (x ∷ xs) [] (suc k) same = absurd (cc same)
as-long (x ∷ xs) (y ∷ ys) (suc k) same =
    let first : length x ≡ length y = cc same in
    let rest : map length xs ≡ map length ys = cc same in
    omega (arith, first, as-long xs ys k rest, length-append x (joined (take k xs)), length-append y (joined (take k ys)))

pub same-long : {X : Type 0} (xs ys : List (List X)) → map length xs ≡ map length ys → length (joined xs) ≡ length (joined ys)
same-long [] [] same = refl
same-long [] (y ∷ ys) same = absurd (cc same)
same-long (x ∷ xs) [] same = absurd (cc same)
same-long (x ∷ xs) (y ∷ ys) same =
    let first : length x ≡ length y = cc same in
    let rest : map length xs ≡ map length ys = cc same in
    omega (arith, first, same-long xs ys rest, length-append x (joined xs), length-append y (joined ys))

pub still-reached : (xs ys : List (List MarkedRow)) (reached : Reached) → map length xs ≡ map length ys → IsReached xs reached → IsReached ys reached
still-reached xs ys reached same is = record {
  within = omega (arith, is.within, ap length same, length-map xs (length {A = MarkedRow}), length-map ys (length {A = MarkedRow}));
  before = is.before ∙ as-long xs ys reached.segment same;
}

-- at the first segment none lies before
pub first-reached : (lists : List (List MarkedRow)) → IsReached lists (record { segment = 0; before = 0 })
first-reached lists = record { within = omega arith; before = refl }

-- and at the next one, those before and one more
pub next-reached : (lists : List (List MarkedRow)) (reached : Reached) → IsReached lists reached → (there : reached.segment < length lists) (list : List MarkedRow)
    → list ≡ get_or lists reached.segment list → IsReached lists (record { segment = reached.segment + 1; before = reached.before + length list })
next-reached lists reached is there list at = record { within = omega (arith, there); before = omega (arith, is.before, long-next lists reached.segment list there at) }
