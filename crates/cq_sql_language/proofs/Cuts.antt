-- Rows that are cut from one list.
use Rattle.std.proofs.Common.{◌≡◌, ◌∙◌, refl, sym, ap, arith, ◌≤◌, ◌<◌, ◌+◌, ◌-◌, ℕ, zero, suc, List, [], ◌∷◌, ◌++◌, length, Some, get_or, subst}
use Rattle.std.specs.Prelude.{take, drop, slice_get, slice_range}
use Rattle.std.proofs.lemmas.List.{drop-append-le, take-append-le, take_rest, length-drop, drop_all}
use Rattle.cq_sql_language.specs.ConstantRows.{AreRising, IsPlaced, next_start, onto_last, rows_at}

-- ---- How many there are
-- each start is a row
pub rows_counted : {A : Type 0} (starts : List ℕ) (xs : List A) → length (rows_at starts xs) ≡ length starts
unfolding rows_at
rows_counted [] xs = refl
rows_counted (start ∷ starts) xs = ap suc (rows_counted starts xs)

-- one entry more makes no row more
pub onto_last-len : {A : Type 0} (x : A) (rows : List (List A)) → length (onto_last x rows) ≡ length rows
unfolding onto_last
onto_last-len x [] = refl
onto_last-len x (row ∷ []) = refl
onto_last-len x (row ∷ next ∷ rows) = ap suc (onto_last-len x (next ∷ rows))

-- the last row is the one behind the others
pub onto_last-append : {A : Type 0} (x : A) (before : List (List A)) (row : List A) → onto_last x (before ++ row ∷ []) ≡ before ++ (row ++ x ∷ []) ∷ []
unfolding onto_last
onto_last-append x [] row = refl
onto_last-append x (first ∷ []) row = refl
onto_last-append x (first ∷ next ∷ before) row = ap (λ rows. first ∷ rows) (onto_last-append x (next ∷ before) row)

-- ---- A row more
-- the rows before end where they did
next_begun : (starts : List ℕ) (end : ℕ) → next_start (starts ++ end ∷ []) end ≡ next_start starts end
next_begun [] end = refl
next_begun (start ∷ starts) end = refl

-- one more start at the end is one more row, with nothing in it
rows_begun : {A : Type 0} (starts : List ℕ) (xs : List A) → rows_at (starts ++ length xs ∷ []) xs ≡ rows_at starts xs ++ [] ∷ []
unfolding rows_at
rows_begun {A} [] xs = ap (λ n. take n (drop (length xs) xs) ∷ []) {x = length xs - length xs} {y = 0} (omega (arith))
rows_begun {A} (start ∷ starts) xs =
    ap (λ end. slice_range xs start end ∷ rows_at (starts ++ length xs ∷ []) xs) (next_begun starts (length xs))
    ∙ ap (λ rows. slice_range xs start (next_start starts (length xs)) ∷ rows) (rows_begun starts xs)

pub begun_at : {A : Type 0} (starts longer : List ℕ) (xs : List A) (end : ℕ) → longer ≡ starts ++ end ∷ [] → end ≡ length xs → rows_at longer xs ≡ rows_at starts xs ++ [] ∷ []
begun_at starts longer xs end is past = ap (λ ns. rows_at ns xs) (is ∙ ap (λ n. starts ++ n ∷ []) past) ∙ rows_begun starts xs

rising_begun : (starts : List ℕ) (end : ℕ) → AreRising starts end → AreRising (starts ++ end ∷ []) end
unfolding AreRising
rising_begun [] end r = (omega (arith), tt)
rising_begun (start ∷ starts) end r = (subst (λ next. start ≤ next) (sym (next_begun starts end)) r.0, rising_begun starts end r.1)

pub begun_rising : (starts longer : List ℕ) (start end : ℕ) → longer ≡ starts ++ start ∷ [] → start ≡ end → AreRising starts end → AreRising longer end
begun_rising starts longer start end is past r = subst (λ ns. AreRising ns end) (sym (is ∙ ap (λ n. starts ++ n ∷ []) past)) (rising_begun starts end r)

-- ---- An entry more
-- the first of the rows begins before the end
first_within : (starts : List ℕ) (end : ℕ) → AreRising starts end → next_start starts end ≤ end
unfolding AreRising
first_within [] end r = omega (arith)
first_within (start ∷ starts) end r = omega (arith, r.0, first_within starts end r.1)

pub rising_longer : (starts : List ℕ) (end longer : ℕ) → AreRising starts end → end ≤ longer → AreRising starts longer
unfolding AreRising
rising_longer [] end longer r l = tt
rising_longer (start ∷ []) end longer r l = (omega (arith, r.0, l), tt)
rising_longer (start ∷ next ∷ starts) end longer r l = (r.0, rising_longer (next ∷ starts) end longer r.1 l)

-- entries behind the end of a range leave it as it is
range_longer : {A : Type 0} (xs ys : List A) (start end : ℕ) → start ≤ end → end ≤ length xs → slice_range (xs ++ ys) start end ≡ slice_range xs start end
range_longer xs ys start end l n =
    ap (take (end - start)) (drop-append-le start xs ys (omega (arith, l, n)))
    ∙ take-append-le (end - start) (drop start xs) ys (omega (arith, l, n, length-drop start xs))

-- what goes on to the end grows by what is put there
rest_longer : {A : Type 0} (xs ys : List A) (start : ℕ) → start ≤ length xs → slice_range (xs ++ ys) start (length (xs ++ ys)) ≡ slice_range xs start (length xs) ++ ys
rest_longer xs ys start l =
    take_rest (xs ++ ys) start
    ∙ drop-append-le start xs ys l
    ∙ ap (λ row. row ++ ys) (sym (take_rest xs start))

-- an entry more is at the end of the last row
pub last_longer : {A : Type 0} (starts : List ℕ) (xs : List A) (x : A) → AreRising starts (length xs) → rows_at starts (xs ++ x ∷ []) ≡ onto_last x (rows_at starts xs)
unfolding AreRising rows_at onto_last
last_longer [] xs x r = refl
last_longer (start ∷ []) xs x r = ap (λ row. row ∷ []) (rest_longer xs (x ∷ []) start r.0)
last_longer (start ∷ next ∷ starts) xs x r =
    ap (λ row. row ∷ rows_at (next ∷ starts) (xs ++ x ∷ [])) (range_longer xs (x ∷ []) start next r.0 (first_within (next ∷ starts) (length xs) r.1))
    ∙ ap (λ rows. slice_range xs start next ∷ rows) (last_longer (next ∷ starts) xs x r.1)

-- ---- The row at a place
module _ (len : ℕ) where
  -- where it ends
  abbrev row_end : List ℕ → ℕ → ℕ
  row_end starts place = next_start (drop (suc place) starts) len

  end_inside : (starts : List ℕ) (n d : ℕ) → n < length starts → next_start (drop n starts) len ≡ get_or starts n d
  end_inside [] n d l = absurd (omega (arith, l))
  end_inside (start ∷ starts) zero d l = refl
  end_inside (start ∷ starts) (suc n) d l = end_inside starts n d (omega (arith, l))

  end_past : (starts : List ℕ) (n : ℕ) → length starts ≤ n → next_start (drop n starts) len ≡ len
  end_past [] n l = ap (λ xs. next_start xs len) (drop_all n [] (omega (arith)))
  end_past (start ∷ starts) zero l = absurd (omega (arith, l))
  end_past (start ∷ starts) (suc n) l = end_past starts n (omega (arith, l))

  -- it ends within the list
  within_cut : (starts : List ℕ) (place d : ℕ) → AreRising starts len → place < length starts → (get_or starts place d ≤ row_end starts place) × (row_end starts place ≤ len)
  unfolding AreRising
  within_cut [] place d r l = absurd (omega (arith, l))
  within_cut (start ∷ starts) zero d r l = (r.0, first_within starts len r.1)
  within_cut (start ∷ starts) (suc place) d r l = within_cut starts place d r.1 (omega (arith, l))

  row_cut : {A : Type 0} (starts : List ℕ) (xs : List A) (place d : ℕ) → length xs ≡ len → place < length starts → slice_get (rows_at starts xs) place ≡ Some (slice_range xs (get_or starts place d) (row_end starts place))
  unfolding rows_at
  row_cut [] xs place d e l = absurd (omega (arith, l))
  row_cut (start ∷ starts) xs zero d e l = ap (λ n. Some (slice_range xs start (next_start starts n))) e
  row_cut (start ∷ starts) xs (suc place) d e l = row_cut starts xs place d e (omega (arith, l))

  module _ (starts : List ℕ) (place d : ℕ) (rising : AreRising starts len) (there : place < length starts) where
    placed : (end : ℕ) → row_end starts place ≡ end → IsPlaced starts len place (get_or starts place d) end
    placed end is =
        let w = within_cut starts place d rising there in
        subst (IsPlaced starts len place (get_or starts place d)) is
        (record { in_order = w.0; within = w.1; row = λ xs e. row_cut starts xs place d e there })

    -- a row goes on to the one behind it
    pub placed_inside : place + 1 < length starts → IsPlaced starts len place (get_or starts place d) (get_or starts (place + 1) d)
    placed_inside l = placed (get_or starts (place + 1) d) (ap (λ n. next_start (drop n starts) len) {x = suc place} {y = place + 1} (omega (arith)) ∙ end_inside starts (place + 1) d l)

    -- the last one goes on to the end
    pub placed_last : length starts ≤ place + 1 → IsPlaced starts len place (get_or starts place d) len
    placed_last l = placed len (end_past starts (suc place) (omega (arith, l)))
