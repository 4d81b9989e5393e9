-- Rows by their flags, where some rows may have none.
use Rattle.std.proofs.Common.{◌≡◌, ◌⊎◌, inl, inr, ◌∙◌, ℕ, zero, suc, ◌+◌, ◌<◌, ◌≤◌, ◌-◌, Bool, true, false, List, [], ◌∷◌, ◌++◌, min, length, drop, take, get_or, refl, sym, ap, arith}
use Rattle.std.proofs.lemmas.Bool.{cases_lt}
use Rattle.std.proofs.lemmas.List.{drop-append-le, length-drop, length-take-le, take_all}
use Rattle.std.proofs.Math.ListN.{drop_of_length-le}
use Rattle.std.proofs.Math.Seq.{drop-append-add, take-append_seam}
use Rattle.cq_values.specs.Value.{Row}
use Rattle.cq_segments_pieces.specs.Marked.{MarkedRow, live, live_from, marked_count, marks_of, rows_of, unmarked, with_flags}
use Rattle.cq_segments_pieces.proofs.Marks.{flags-none, length-flags, length-live, live_from-kept, live_from-passed, live_from-there, none-marked}

-- the mark of a row is its flag
pub flag-at : (rows : List Row) (flags : List Bool) (place : ℕ) → place < length rows → get_or (marks_of (with_flags rows flags)) place false ≡ get_or flags place false
flag-at [] flags place lt = absurd (omega (arith, lt))
flag-at (row ∷ rows) [] zero lt = refl
flag-at (row ∷ rows) [] (suc place) lt = ap (λ l. get_or (marks_of l) place false) (sym (flags-none rows)) ∙ flag-at rows [] place (omega (arith, lt))
flag-at (row ∷ rows) (flag ∷ flags) zero lt = refl
flag-at (row ∷ rows) (flag ∷ flags) (suc place) lt = flag-at rows flags place (omega (arith, lt))

-- as many flags as there are
pub take-min : {X : Type 0} (n : ℕ) (xs : List X) → take (min n (length xs)) xs ≡ take n xs
take-min n xs = by_length (cases_lt n (length xs))
  where
    by_length : (n < length xs) ⊎ (length xs ≤ n) → take (min n (length xs)) xs ≡ take n xs
    by_length (inl less) = ap (λ (k : ℕ). take k xs) {x = min n (length xs)} {y = n} (omega (arith, less))
    by_length (inr past) = take_all (min n (length xs)) xs (omega (arith, past)) ∙ sym (take_all n xs past)

pub drop-min : {X : Type 0} (n : ℕ) (xs : List X) → drop (min n (length xs)) xs ≡ drop n xs
drop-min n xs = by_length (cases_lt n (length xs))
  where
    by_length : (n < length xs) ⊎ (length xs ≤ n) → drop (min n (length xs)) xs ≡ drop n xs
    by_length (inl less) = ap (λ (k : ℕ). drop k xs) {x = min n (length xs)} {y = n} (omega (arith, less))
    by_length (inr past) = drop_of_length-le xs {i = min n (length xs)} (omega (arith, past)) ∙ sym (drop_of_length-le xs {i = n} past)

-- a row more with its flag
pub push-flag : (rows : List Row) (flags : List Bool) (row : Row) → length flags ≡ length rows → with_flags (rows ++ row ∷ []) (flags ++ false ∷ []) ≡ with_flags rows flags ++ unmarked (row ∷ [])
push-flag [] [] row same = refl
push-flag [] (flag ∷ flags) row same = absurd (omega (arith, same))
push-flag (r ∷ rows) [] row same = absurd (omega (arith, same))
push-flag (r ∷ rows) (flag ∷ flags) row same = ap (λ l. record { row = r; marked = flag } ∷ l) (push-flag rows flags row (omega (arith, same)))

-- where as many rows are live as there are none has a mark
pub all_live : (stored : List MarkedRow) → length (live stored) ≡ length stored → stored ≡ unmarked (rows_of stored)
all_live stored same = none-marked stored (omega (arith, same, length-live stored))

module _ (rows : List Row) (flags : List Bool) (place : ℕ) (lt : place < length rows) where
  -- the place is there
  pub row_there : place < length (with_flags rows flags)
  row_there = omega (arith, lt, length-flags rows flags)

  -- the place of a live row comes behind those before it
  pub place-kept : get_or flags place false ≡ false → live_from 0 (take (place + 1) (with_flags rows flags)) ≡ live_from 0 (take place (with_flags rows flags)) ++ place ∷ []
  place-kept e = live_from-kept (with_flags rows flags) place row_there (flag-at rows flags place lt ∙ e)

  -- that of a marked one does not
  pub place-passed : get_or flags place false ≡ true → live_from 0 (take (place + 1) (with_flags rows flags)) ≡ live_from 0 (take place (with_flags rows flags))
  place-passed e = live_from-passed (with_flags rows flags) place row_there (flag-at rows flags place lt ∙ e)

  -- and so it stands behind as many as there are live rows before it
  pub place-there : get_or flags place false ≡ false → get_or (live_from 0 (with_flags rows flags)) (length (live_from 0 (take place (with_flags rows flags)))) 0 ≡ place
  place-there e = live_from-there (with_flags rows flags) place row_there (flag-at rows flags place lt ∙ e)

-- the first items are turned behind the others, and cut off
pub turned : {X : Type 0} (n left : ℕ) (xs : List X) → n ≤ length xs → left ≡ length xs - n → take left (drop n xs ++ take n xs) ≡ drop n xs
turned n left xs le is =
    ap (λ (k : ℕ). take k (drop n xs ++ take n xs)) {x = left} {y = length (drop n xs)} (omega (arith, is, length-drop n xs)) ∙ take-append_seam (drop n xs) (take n xs)

-- the marks of the first rows are as many as are not live
pub count-front : (stored : List MarkedRow) (n : ℕ) → n ≤ length stored → marked_count (take n stored) + length (live (take n stored)) ≡ n
count-front stored n le = omega (arith, length-live (take n stored), length-take-le n stored le)

-- what is dropped of two lists is dropped of the first, and of the other what is more than that
pub drop-both : {X : Type 0} (n : ℕ) (xs ys : List X) → drop n (xs ++ ys) ≡ drop n xs ++ drop (n - length xs) ys
drop-both n xs ys = by_length (cases_lt n (length xs))
  where
    by_length : (n < length xs) ⊎ (length xs ≤ n) → drop n (xs ++ ys) ≡ drop n xs ++ drop (n - length xs) ys
    by_length (inl less) =
        drop-append-le n xs ys (omega (arith, less)) ∙ ap (λ (k : ℕ). drop n xs ++ drop k ys) {x = 0} {y = n - length xs} (omega (arith, less))
    by_length (inr past) =
        ap (λ (k : ℕ). drop k (xs ++ ys)) {x = n} {y = length xs + (n - length xs)} (omega (arith, past))
        ∙ drop-append-add xs ys (n - length xs)
        ∙ ap (λ l. l ++ drop (n - length xs) ys) (sym (drop_of_length-le xs {i = n} past))
