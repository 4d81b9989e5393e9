-- Rows of columns, and columns of rows.
use Rattle.std.proofs.Common.{◌≡◌, ℕ, zero, suc, ◌<◌, ◌≤◌, ◌⊎◌, inl, inr, List, [], ◌∷◌, map, length, get_or, replicate, refl, sym, ap, ap₂, ◌∙◌, arith}
use Rattle.std.specs.List.{All, range_with_len}
use Rattle.std.proofs.lemmas.Bool.{cases_lt}
use Rattle.std.proofs.lemmas.List.{ext_get_or, get_or-map, get_or_past, get_or-replicate, length-map, length-replicate}
use Rattle.std.proofs.lemmas.List.Elements.{All-from_recursion}
use Rattle.std.proofs.lemmas.List.FromFn.{get_or-map-range_with_len, length-map-range_with_len}
use Rattle.std.proofs.lemmas.Simd.{map-map}
use Rattle.cq_values.specs.declared.value.Value.{Value}
use Rattle.cq_values.specs.declared.value.Value.TheVariants.{Null}
use Rattle.cq_values.specs.Value.{Row, column}
use Rattle.cq_vectors.specs.Batch.{row_at}
use Rattle.cq_vectors.specs.Gathered.{column_of}
use Rattle.cq_segments_pieces.specs.Columns.{AreColumns, AreWide, columns_of, rows_of_columns}

-- the value of a column at a place
at_place : (columns : List (List Value)) (place at : ℕ) → column (row_at columns place) at ≡ get_or (get_or columns at []) place Null
at_place [] place at = refl
at_place (c ∷ cs) place zero = refl
at_place (c ∷ cs) place (suc at) = at_place cs place at

pub length-rows : (columns : List (List Value)) (len : ℕ) → length (rows_of_columns columns len) ≡ len
length-rows columns len = length-map-range_with_len (row_at columns) 0 len

pub row_there : (columns : List (List Value)) (len place : ℕ) (d : Row) → place < len → get_or (rows_of_columns columns len) place d ≡ row_at columns place
row_there columns len place d lt = get_or-map-range_with_len (row_at columns) 0 len place place d lt (omega arith)

-- past the rows each column ends
column_past : (columns : List (List Value)) (len place at : ℕ) → All (λ values. length values ≡ len) columns → len ≤ place → get_or (get_or columns at []) place Null ≡ Null
column_past columns len place at long past = by_column (cases_lt at (length columns))
  where
    by_column : (at < length columns) ⊎ (length columns ≤ at) → get_or (get_or columns at []) place Null ≡ Null
    by_column (inl lt) = get_or_past (get_or columns at []) place Null (omega (arith, past, long at [] lt))
    by_column (inr le) = ap (λ values. get_or values place Null) (get_or_past columns at [] le)

-- the value of a column in the row at a place
pub value_at : (columns : List (List Value)) (len place at : ℕ) → AreColumns columns len → column (get_or (rows_of_columns columns len) place []) at ≡ get_or (get_or columns at []) place Null
value_at columns len place at are = by_place (cases_lt place len)
  where
    by_place : (place < len) ⊎ (len ≤ place) → column (get_or (rows_of_columns columns len) place []) at ≡ get_or (get_or columns at []) place Null
    by_place (inl lt) = ap (λ row. column row at) (row_there columns len place [] lt) ∙ at_place columns place at
    by_place (inr past) =
        ap (λ row. column row at) (get_or_past (rows_of_columns columns len) place [] (omega (arith, past, length-rows columns len)))
        ∙ sym (column_past columns len place at are.long past)

-- each row has a value of each column
pub width_of : (columns : List (List Value)) (len : ℕ) → All (λ row. length row ≡ length columns) (rows_of_columns columns len)
width_of columns len k d lt =
    ap length (row_there columns len k d (omega (arith, lt, length-rows columns len))) ∙ length-map columns (λ values. column values k)

-- a column of the rows is the column
pub column_kept : (columns : List (List Value)) (len at : ℕ) → AreColumns columns len → at < length columns → column_of (rows_of_columns columns len) at ≡ get_or columns at []
column_kept columns len at are lt =
    let rows = rows_of_columns columns len in
    let count : length (column_of rows at) ≡ len = length-map rows (λ row. column row at) ∙ length-rows columns len in
    ext_get_or Null (column_of rows at) (get_or columns at []) (count ∙ sym (are.long at [] lt))
    (λ k below. get_or-map (λ row. column row at) rows k [] Null (omega (arith, below, length-map rows (λ row. column row at))) ∙ value_at columns len k at are)

-- and NULL where there is no such column
pub column_none : (columns : List (List Value)) (len at k : ℕ) → AreColumns columns len → length columns ≤ at → column (get_or (rows_of_columns columns len) k []) at ≡ Null
column_none columns len at k are le = value_at columns len k at are ∙ ap (λ values. get_or values k Null) (get_or_past columns at [] le)

-- a row is the list of its values
row_of_values : (row : Row) (width : ℕ) → length row ≡ width → map (column row) (range_with_len 0 width) ≡ row
row_of_values row width e =
    let count = length-map-range_with_len (column row) 0 width in
    ext_get_or Null (map (column row) (range_with_len 0 width)) row (count ∙ sym e)
    (λ k below. get_or-map-range_with_len (column row) 0 width k k Null (omega (arith, below, count)) (omega arith))

-- the row of the columns of rows
row_rebuilt : (rows : List Row) (width place : ℕ) → place < length rows → length (get_or rows place []) ≡ width → row_at (columns_of rows width) place ≡ get_or rows place []
row_rebuilt rows width place lt wide =
    map-map (λ values. column values place) (column_of rows) (range_with_len 0 width)
    ∙ same (range_with_len 0 width)
    ∙ row_of_values (get_or rows place []) width wide
  where
    same : (ats : List ℕ) → map (λ at. column (column_of rows at) place) ats ≡ map (column (get_or rows place [])) ats
    same [] = refl
    same (at ∷ ats) = ap₂ (λ v l. v ∷ l) (get_or-map (λ row. column row at) rows place [] Null lt) (same ats)

-- columns of rows of one width are those rows
pub rebuilt : (rows : List Row) (width : ℕ) → AreWide width rows → rows_of_columns (columns_of rows width) (length rows) ≡ rows
rebuilt rows width wide =
    let count = length-rows (columns_of rows width) (length rows) in
    ext_get_or [] (rows_of_columns (columns_of rows width) (length rows)) rows count
    (λ k below. let lt : k < length rows = omega (arith, below, count) in
    row_there (columns_of rows width) (length rows) k [] lt ∙ row_rebuilt rows width k lt (All-from_recursion (λ row. length row ≡ width) rows wide k [] lt))

-- and each of them is as long as the rows are many
pub columns_long : (rows : List Row) (width : ℕ) → All (λ values. length values ≡ length rows) (columns_of rows width)
columns_long rows width k d lt =
    let count = length-map-range_with_len (column_of rows) 0 width in
    ap length (get_or-map-range_with_len (column_of rows) 0 width k k d (omega (arith, lt, count)) (omega arith)) ∙ length-map rows (λ row. column row k)

-- where there is no such column all of it is NULL
pub nulls_past : (columns : List (List Value)) (len at : ℕ) → AreColumns columns len → length columns ≤ at → column_of (rows_of_columns columns len) at ≡ replicate len Null
nulls_past columns len at are le =
    let rows = rows_of_columns columns len in
    let count : length (column_of rows at) ≡ len = length-map rows (λ row. column row at) ∙ length-rows columns len in
    ext_get_or Null (column_of rows at) (replicate len Null) (count ∙ sym (length-replicate len Null))
    (λ k below. get_or-map (λ row. column row at) rows k [] Null (omega (arith, below, length-map rows (λ row. column row at)))
    ∙ column_none columns len at k are le ∙ sym (get_or-replicate len k Null Null (omega (arith, below, count))))
