-- Rows of a change, whose addends stand in one list.
use Rattle.std.proofs.Common.{◌≡◌, ◌∙◌, refl, ap, ap₂, arith, ◌<◌, ◌+◌, ◌-◌, ℕ, zero, suc, ℤ, pos, List, [], ◌∷◌, ◌++◌, length, take, drop, get_or, Option, nat_lt}
use Rattle.std.specs.Prelude.{slice_range}
use Rattle.std.specs.List.Sorted.{IsSortedBy}
use Rattle.std.proofs.lemmas.List.{drop-append-le, take-append-le, take_rest, drop_all, length-drop, length-map, map-append}
use Rattle.cq_deltas.specs.declared.change.Addend.{Addend}
use Rattle.cq_deltas.specs.declared.change.SpannedRow.{SpannedRow}
use Rattle.cq_deltas.specs.Placed.{AreWithin, IsWithin, Placed, row_in, rows_in}

module _ (xs ys : List (Option Addend)) where
  -- addends behind the end of a row leave it as it is
  row-longer : (w : SpannedRow) → IsWithin xs w → row_in (xs ++ ys) w ≡ row_in xs w
  row-longer w h = ap (λ (vs : List (Option Addend)). record { place = w.place; weight = w.weight; addends = vs })
      (ap (take (w.end - w.start)) (drop-append-le w.start xs ys (omega (arith, h.in_order, h.within)))
      ∙ take-append-le (w.end - w.start) (drop w.start xs) ys (omega (arith, h.in_order, h.within, length-drop w.start xs)))

  -- so it is with all rows
  rows-longer : (rows : List SpannedRow) → AreWithin xs rows → rows_in (xs ++ ys) rows ≡ rows_in xs rows
  rows-longer [] within = refl
  rows-longer (w ∷ rows) within =
      ap₂ (λ (r : Placed) (rs : List Placed). r ∷ rs) (row-longer w (within 0 w (omega arith))) (rows-longer rows (λ i d h. within (suc i) d (omega (arith, h))))

  -- addends that are put behind the others are read back
  read-back : slice_range (xs ++ ys) (length xs) (length (xs ++ ys)) ≡ ys
  read-back =
      take_rest (xs ++ ys) (length xs) ∙ drop-append-le (length xs) xs ys (omega arith)
      ∙ ap (λ (vs : List (Option Addend)). vs ++ ys) (drop_all (length xs) xs (omega arith))

  -- so they are one row more
  pub rows-pushed : (rows : List SpannedRow) (place : ℕ) (weight : ℤ) → AreWithin xs rows
      → rows_in (xs ++ ys) (rows ++ record { place = place; weight = weight; start = length xs; end = length (xs ++ ys) } ∷ []) ≡ rows_in xs rows ++ record { place = place; weight = weight; addends = ys } ∷ []
  rows-pushed rows place weight within =
      map-append (row_in (xs ++ ys)) rows _
      ∙ ap₂ (λ (rs : List Placed) (vs : List (Option Addend)). rs ++ record { place = place; weight = weight; addends = vs } ∷ []) (rows-longer rows within) read-back

-- ---- the order of rows
-- a row stands at its own place
place-in : (addends : List (Option Addend)) (rows : List SpannedRow) (k : ℕ) (w : SpannedRow) (r : Placed) → k < length rows → (get_or (rows_in addends rows) k r).place ≡ (get_or rows k w).place
place-in addends [] k w r h = absurd (omega (arith, h))
place-in addends (first ∷ rows) zero w r h = refl
place-in addends (first ∷ rows) (suc k) w r h = place-in addends rows k w r (omega (arith, h))

-- rows that wait in the order of their places are in that order
pub rows-sorted : (addends : List (Option Addend)) (rows : List SpannedRow) → IsSortedBy (λ x y. nat_lt y.place x.place) rows → IsSortedBy (λ x y. nat_lt y.place x.place) (rows_in addends rows)
rows-sorted addends rows sorted k r l h =
    let none : SpannedRow = record { place = 0; weight = pos 0; start = 0; end = 0 } in
    let n : k + 1 < length rows = omega (arith, h, length-map rows (row_in addends)) in
    rw (place-in addends rows k none r (omega (arith, n)), place-in addends rows (k + 1) none r n) (sorted k none l n)
