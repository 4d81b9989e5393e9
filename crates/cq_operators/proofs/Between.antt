-- Rows between two places of a list, as columns and as rows.
use Rattle.std.proofs.Common.{◌≡◌, ◌∙◌, ◌+◌, ◌-◌, ◌<◌, ◌≤◌, ℕ, zero, suc, List, [], ◌∷◌, ◌++◌, ap, ap₂, arith, drop, get_or, length, map, refl, sym, take}
use Rattle.std.specs.List.{range_with_len}
use Rattle.std.proofs.lemmas.List.{drop-append-le, get_or-map, length-drop, length-take-le, map-append}
use Rattle.cq_values.specs.Value.{Row, column}
use Rattle.cq_values.specs.declared.value.Value.{Value}
use Rattle.cq_values.specs.declared.value.Value.TheVariants.{Null}
use Rattle.cq_model_bags.proofs.Lists.{all-drop, all-take}
use Rattle.cq_plan.specs.Chain.{HaveValues}
use Rattle.cq_vectors.specs.Batch.{row_at}
use Rattle.cq_operators.specs.Batches.{between, column_in, columns_in}

-- ---- rows and columns
-- what a function gives for each place is the list of what stands there
each-place : {X : Type 0} (g : ℕ → X) (d : X) (xs : List X) (a : ℕ) → ((i j : ℕ) → i + a ≡ j → i < length xs → g j ≡ get_or xs i d) → map g (range_with_len a (length xs)) ≡ xs
each-place g d [] a each = refl
each-place {X} g d (x ∷ xs) a each = ap₂ (λ (y : X) (ys : List X). y ∷ ys) (each 0 a (omega arith) (omega arith)) (each-place g d xs (a + 1) (λ i j is more. each (suc i) j (omega (arith, is)) (omega (arith, more))))

-- a row is the values of its columns
row-whole : (row : Row) → map (column row) (range_with_len 0 (length row)) ≡ row
row-whole row = each-place (column row) Null row 0 (λ i j is more. let same : j ≡ i = omega (arith, is) in ap (column row) same)

-- the values of the columns at a place are those of the row there
columns-at : (n a : ℕ) (rows : List Row) (i : ℕ) → i < length rows → row_at (map (λ place. column_in place rows) (range_with_len a n)) i ≡ map (column (get_or rows i [])) (range_with_len a n)
columns-at zero a rows i more = refl
columns-at (suc n) a rows i more =
    ap₂ (λ (v : Value) (vs : List Value). v ∷ vs) (get_or-map (λ row. column row a) rows i [] Null more) (columns-at n (a + 1) rows i more)

values-at : (n : ℕ) (rows : List Row) (i : ℕ) → HaveValues n rows → i < length rows → length (get_or rows i []) ≡ n
values-at n [] i have more = absurd (omega (arith, more))
values-at n (r ∷ rows) zero have more = have.0
values-at n (r ∷ rows) (suc i) have more = values-at n rows i have.1 (omega (arith, more))

-- the rows of all columns are the rows
pub rows-whole : (n : ℕ) (rows : List Row) (columns : List (List Value)) (len : ℕ) → HaveValues n rows → columns ≡ columns_in n rows → len ≡ length rows → map (row_at columns) (range_with_len 0 len) ≡ rows
rows-whole n rows columns len have are is =
    ap₂ (λ (cs : List (List Value)) (k : ℕ). map (row_at cs) (range_with_len 0 k)) are is
    ∙ each-place (row_at (columns_in n rows)) [] rows 0
    (λ i j at more. let same : j ≡ i = omega (arith, at) in
    ap (row_at (columns_in n rows)) same ∙ columns-at n 0 rows i more
    ∙ ap (λ (k : ℕ). map (column (get_or rows i [])) (range_with_len 0 k)) (sym (values-at n rows i have more)) ∙ row-whole (get_or rows i []))

-- ---- rows between two places
module _ (start end : ℕ) (rows : List Row) (places : start ≤ end) (inside : end ≤ length rows) where
  pub length-between : length (between start end rows) ≡ end - start
  length-between = length-drop start (take end rows) ∙ ap (λ (n : ℕ). n - start) (length-take-le end rows inside)

  -- the next one stands behind them
  pub between-next : (row : Row) → take (end + 1) rows ≡ take end rows ++ row ∷ [] → between start (end + 1) rows ≡ between start end rows ++ row ∷ []
  between-next row next = ap (drop start) next ∙ drop-append-le start (take end rows) (row ∷ []) (omega (arith, places, length-take-le end rows inside))

  -- so does the value of a column
  pub column-next : (row : Row) (place : ℕ) (values : List Value) (value : Value) → take (end + 1) rows ≡ take end rows ++ row ∷ [] → values ≡ column_in place (between start end rows) → value ≡ column row place
      → values ++ value ∷ [] ≡ column_in place (between start (end + 1) rows)
  column-next row place values value next are is =
      ap₂ (λ (vs : List Value) (v : Value). vs ++ v ∷ []) are is
      ∙ sym (map-append (λ r. column r place) (between start end rows) (row ∷ [])) ∙ ap (column_in place) (sym (between-next row next))

pub values-between : (n start end : ℕ) (rows : List Row) → HaveValues n rows → HaveValues n (between start end rows)
values-between n start end rows have = all-drop _ start (take end rows) (all-take _ end rows have)
