-- Rows of columns, column by column and row by row.
use Rattle.std.proofs.Common.{◌≡◌, ℕ, zero, suc, ◌+◌, ◌-◌, ◌<◌, ◌≤◌, ◌⊎◌, inl, inr, List, [], ◌∷◌, ◌++◌, map, length, get_or, take, drop, refl, sym, ap, ap₂, ◌∙◌, arith, subst}
use Rattle.std.specs.List.{AllByRecursion, range_with_len}
use Rattle.std.specs.Simd.Lanes.{zip2}
use Rattle.std.proofs.lemmas.Bool.{cases_lt}
use Rattle.std.proofs.lemmas.List.{drop_more, ext_get_or, get_or-append_right, get_or-map, get_or_append_left, length-append, length-map, take_more}
use Rattle.std.proofs.lemmas.List.Elements.{All-from_recursion}
use Rattle.std.proofs.lemmas.List.FromFn.{get_or-map-range_with_len, length-map-range_with_len}
use Rattle.cq_values.specs.declared.value.Value.{Value}
use Rattle.cq_values.specs.declared.value.Value.TheVariants.{Null}
use Rattle.cq_values.specs.Value.{Row, column}
use Rattle.cq_values_rows.specs.Columns.{AreBelow, AreLong, column_of, longer, row_at, row_or_none, rows_at, rows_of_columns}

-- as many rows as were asked for
pub rows_counted : (columns : List (List Value)) (len : ℕ) → length (rows_of_columns columns len) ≡ len
rows_counted columns len = length-map-range_with_len (row_at columns) 0 len

-- the row at a place has the values there
pub row_there : (columns : List (List Value)) (len place : ℕ) → place < len → row_or_none (rows_of_columns columns len) place ≡ row_at columns place
row_there columns len place lt = get_or-map-range_with_len (row_at columns) 0 len place place [] lt (omega arith)

-- the value of a column at a place
at_place : (columns : List (List Value)) (place at : ℕ) → column (row_at columns place) at ≡ column (get_or columns at []) place
at_place [] place at = refl
at_place (c ∷ columns) place zero = refl
at_place (c ∷ columns) place (suc at) = at_place columns place at

-- a column of the rows is the column
pub column_kept : (columns : List (List Value)) (len at : ℕ) → AreLong len columns → at < length columns → column_of (rows_of_columns columns len) at ≡ get_or columns at []
column_kept columns len at long lt =
    let rows = rows_of_columns columns len in
    let count : length (column_of rows at) ≡ len = length-map rows (λ (row : Row). column row at) ∙ rows_counted columns len in
    ext_get_or Null (column_of rows at) (get_or columns at []) (count ∙ sym (All-from_recursion (λ (values : List Value). length values ≡ len) columns long at [] lt))
    (λ k below. let here : k < len = omega (arith, below, count) in
    get_or-map (λ (row : Row). column row at) rows k [] Null (omega (arith, here, rows_counted columns len))
    ∙ ap (λ (row : Row). column row at) (row_there columns len k here) ∙ at_place columns k at)

-- ---- columns behind columns
-- each is as long as both
pub longer_long : (n m : ℕ) (columns more : List (List Value)) → AreLong n columns → AreLong m more → length columns ≡ length more → AreLong (n + m) (longer columns more)
longer_long n m [] [] one other e = tt
longer_long n m [] (d ∷ more) one other e = tt
longer_long n m (c ∷ columns) [] one other e = tt
longer_long n m (c ∷ columns) (d ∷ more) one other e =
    (length-append c d ∙ ap₂ (λ (a b : ℕ). a + b) one.0 other.0, longer_long n m columns more one.1 other.1 (omega (arith, e)))

early : (n k : ℕ) (columns more : List (List Value)) → AreLong n columns → length columns ≡ length more → k < n → row_at (longer columns more) k ≡ row_at columns k
early n k [] [] one e lt = refl
early n k [] (d ∷ more) one e lt = refl
early n k (c ∷ columns) [] one e lt = absurd (omega (arith, e))
early n k (c ∷ columns) (d ∷ more) one e lt =
    ap₂ (λ (v : Value) (row : Row). v ∷ row) (get_or_append_left c d Null k (omega (arith, lt, one.0))) (early n k columns more one.1 (omega (arith, e)) lt)

late : (n k : ℕ) (columns more : List (List Value)) → AreLong n columns → length columns ≡ length more → n ≤ k → row_at (longer columns more) k ≡ row_at more (k - n)
late n k [] [] one e le = refl
late n k [] (d ∷ more) one e le = absurd (omega (arith, e))
late n k (c ∷ columns) [] one e le = absurd (omega (arith, e))
late n k (c ∷ columns) (d ∷ more) one e le =
    ap₂ (λ (v : Value) (row : Row). v ∷ row) (get_or-append_right c d n k Null one.0 le) (late n k columns more one.1 (omega (arith, e)) le)

-- the rows of the longer columns are the rows of both
pub longer_rows : (n m : ℕ) (columns more : List (List Value)) → AreLong n columns → length columns ≡ length more
    → rows_of_columns (longer columns more) (n + m) ≡ rows_of_columns columns n ++ rows_of_columns more m
longer_rows n m columns more one e =
    let before = rows_of_columns columns n in
    let behind = rows_of_columns more m in
    let all = rows_of_columns (longer columns more) (n + m) in
    let count : length all ≡ n + m = rows_counted (longer columns more) (n + m) in
    ext_get_or [] all (before ++ behind) (count ∙ sym (length-append before behind ∙ ap₂ (λ (a b : ℕ). a + b) (rows_counted columns n) (rows_counted more m)))
    (λ k below. row_there (longer columns more) (n + m) k (omega (arith, below, count)) ∙ at k (omega (arith, below, count)) (cases_lt k n))
  where
    at : (k : ℕ) → k < n + m → (k < n) ⊎ (n ≤ k) → row_at (longer columns more) k ≡ get_or (rows_of_columns columns n ++ rows_of_columns more m) k []
    at k below (inl lt) =
        early n k columns more one e lt ∙ sym (row_there columns n k lt)
        ∙ sym (get_or_append_left (rows_of_columns columns n) (rows_of_columns more m) [] k (omega (arith, lt, rows_counted columns n)))
    at k below (inr le) =
        late n k columns more one e le ∙ sym (row_there more m (k - n) (omega (arith, below, le)))
        ∙ sym (get_or-append_right (rows_of_columns columns n) (rows_of_columns more m) n k [] (rows_counted columns n) le)

-- one column more is longer
pub longer_next : (columns more : List (List Value)) (i : ℕ) → i < length columns → i < length more
    → longer (take (i + 1) columns) (take (i + 1) more) ≡ longer (take i columns) (take i more) ++ (get_or columns i [] ++ get_or more i []) ∷ []
longer_next columns more i lt below = ap (λ (n : ℕ). longer (take n columns) (take n more)) {x = i + 1} {y = suc i} (omega arith) ∙ next columns more i lt below
  where
    next : (columns more : List (List Value)) (i : ℕ) → i < length columns → i < length more
        → longer (take (suc i) columns) (take (suc i) more) ≡ longer (take i columns) (take i more) ++ (get_or columns i [] ++ get_or more i []) ∷ []
    next [] more i lt below = absurd (omega (arith, lt))
    next (c ∷ columns) [] i lt below = absurd (omega (arith, below))
    next (c ∷ columns) (d ∷ more) zero lt below = refl
    next (c ∷ columns) (d ∷ more) (suc i) lt below =
        ap (λ (all : List (List Value)). (c ++ d) ∷ all) (next columns more i (omega (arith, lt)) (omega (arith, below)))

-- ---- the rows at places
abbrev pub copied : List ℕ → List (List Value) → List (List Value)
copied places columns = map (λ (values : List Value). map (column values) places) columns

pub copied_long : (places : List ℕ) (columns : List (List Value)) → AreLong (length places) (copied places columns)
copied_long places [] = tt
copied_long places (c ∷ columns) = (length-map places (column c), copied_long places columns)

copied_row : (places : List ℕ) (columns : List (List Value)) (k : ℕ) → k < length places → row_at (copied places columns) k ≡ row_at columns (get_or places k 0)
copied_row places [] k lt = refl
copied_row places (c ∷ columns) k lt =
    ap₂ (λ (v : Value) (row : Row). v ∷ row) (get_or-map (column c) places k 0 Null lt) (copied_row places columns k lt)

pub copied_at : (places : List ℕ) (columns : List (List Value)) → rows_of_columns (copied places columns) (length places) ≡ map (row_at columns) places
copied_at places columns =
    let copies = rows_of_columns (copied places columns) (length places) in
    let count : length copies ≡ length places = rows_counted (copied places columns) (length places) in
    ext_get_or [] copies (map (row_at columns) places) (count ∙ sym (length-map places (row_at columns)))
    (λ k lt. let here : k < length places = omega (arith, lt, count) in
    row_there (copied places columns) (length places) k here ∙ copied_row places columns k here ∙ sym (get_or-map (row_at columns) places k 0 [] here))

pub copied_rows : (places : List ℕ) (columns : List (List Value)) (len : ℕ) → AreBelow len places
    → rows_of_columns (copied places columns) (length places) ≡ rows_at (rows_of_columns columns len) places
copied_rows places columns len below = copied_at places columns ∙ each places below
  where
    each : (places : List ℕ) → AreBelow len places → map (row_at columns) places ≡ rows_at (rows_of_columns columns len) places
    each [] below = refl
    each (p ∷ places) below = ap₂ (λ (row : Row) (rows : List Row). row ∷ rows) (sym (row_there columns len p below.0)) (each places below.1)
