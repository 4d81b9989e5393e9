-- Parts of 1,024 rows of encoded columns.
use Rattle.std.proofs.Common.{◌≡◌, ◌∙◌, ℕ, ◌+◌, ◌-◌, ◌*◌, ◌<◌, ◌≤◌, List, [], ◌∷◌, replicate, min, length, drop, take, get_or, refl, sym, ap, ap₂, subst, arith}
use Rattle.std.specs.List.{All}
use Rattle.std.proofs.lemmas.List.{drop-map, drop-replicate, ext_get_or, get_or-drop, get_or-map, get_or-take, length-drop, length-map, length-take, take_all}
use Rattle.std.proofs.lemmas.Simd.{map-map}
use Rattle.cq_values.specs.declared.value.Value.{Value}
use Rattle.cq_values.specs.declared.value.Value.TheVariants.{Null}
use Rattle.cq_values.specs.Value.{Row, column}
use Rattle.cq_encodings.specs.AnyEncoded.{encoded_values}
use Rattle.cq_encodings.specs.declared.any_encoded.AnyEncoded.{AnyEncoded}
use Rattle.cq_encodings_vectors.specs.Parts.{part_of}
use Rattle.cq_vectors.specs.Batch.{row_at}
use Rattle.cq_vectors.specs.Gathered.{column_of}
use Rattle.cq_segments_pieces.specs.Columns.{AreColumns, AreLong, AreWide, columns_in, columns_of, encoded_rows, parts_of, rows_of_columns, rows_of_part}
use Rattle.cq_segments_pieces.proofs.Transposed.{column_kept, columns_long, length-rows, nulls_past, rebuilt, row_there, width_of}

-- ---- one column

pub length-part : (k : ℕ) (values : List Value) → length (part_of k values) ≡ min 1024 (length values - 1024 * k)
length-part k values = length-take 1024 (drop (1024 * k) values) ∙ ap (min 1024) (length-drop (1024 * k) values)

-- what stands at a place of a part
pub part_read : (k place : ℕ) (values : List Value) → place < 1024 → get_or (part_of k values) place Null ≡ get_or values (1024 * k + place) Null
part_read k place values lt = get_or-take 1024 (drop (1024 * k) values) place Null lt ∙ get_or-drop (1024 * k) values place Null

-- a place behind the first ones of a part is a place of the part
pub part_inside : (k from place : ℕ) (values : List Value) → place < length (drop from (part_of k values)) → from + place < 1024
part_inside k from place values lt = omega (arith, lt, length-drop from (part_of k values), length-part k values)

-- what stands there
pub part_read_from : (k from place : ℕ) (values : List Value) → place < length (drop from (part_of k values)) → get_or (drop from (part_of k values)) place Null ≡ get_or values (1024 * k + from + place) Null
part_read_from k from place values lt =
    get_or-drop from (part_of k values) place Null ∙ part_read k (from + place) values (part_inside k from place values lt)
    ∙ ap (λ (n : ℕ). get_or values n Null) {x = 1024 * k + (from + place)} {y = 1024 * k + from + place} (omega arith)

module _ (encoded : List AnyEncoded) (k count at : ℕ) (one : AnyEncoded) (are : AreColumns (parts_of k encoded) count) (lt : at < length encoded) (is : one ≡ get_or encoded at one) where
  part_here : get_or (parts_of k encoded) at [] ≡ part_of k (encoded_values one)
  part_here = get_or-map (λ column. part_of k (encoded_values column)) encoded at one [] lt ∙ ap (λ column. part_of k (encoded_values column)) (sym is)

  inside : at < length (parts_of k encoded)
  inside = omega (arith, lt, length-map encoded (λ column. part_of k (encoded_values column)))

  -- a column of the rows of a part is that part of the column
  pub part_kept : part_of k (encoded_values one) ≡ column_of (rows_of_columns (parts_of k encoded) count) at
  part_kept = sym part_here ∙ sym (column_kept (parts_of k encoded) count at are inside)

  -- also from a place on
  pub part_kept_from : (from : ℕ) → drop from (part_of k (encoded_values one)) ≡ column_of (drop from (rows_of_columns (parts_of k encoded) count)) at
  part_kept_from from = ap (drop from) part_kept ∙ drop-map (λ row. column row at) from (rows_of_columns (parts_of k encoded) count)

  -- and it is there
  pub part_there : 1024 * k ≤ length (encoded_values one)
  part_there = omega (arith, are.some, are.long at [] inside, ap length part_here, length-part k (encoded_values one))

-- ---- all columns

-- how many rows are left of a part
pub length-rows_of_part : (encoded : List AnyEncoded) (k from len : ℕ) → length (rows_of_part encoded k from len) ≡ len - from
length-rows_of_part encoded k from len = length-drop from (rows_of_columns (parts_of k encoded) len) ∙ ap (λ (n : ℕ). n - from) (length-rows (parts_of k encoded) len)

-- each of them has a value of each column
pub width_of_part : (encoded : List AnyEncoded) (k from len : ℕ) → All (λ row. length row ≡ length encoded) (rows_of_part encoded k from len)
width_of_part encoded k from len place d lt =
    let rows = rows_of_columns (parts_of k encoded) len in
    ap length (get_or-drop from rows place d) ∙ width_of (parts_of k encoded) len (from + place) d (omega (arith, lt, length-drop from rows))
    ∙ length-map encoded (λ column. part_of k (encoded_values column))

-- a column that they do not have is NULL
pub nulls_of_part : (encoded : List AnyEncoded) (k from len at : ℕ) → AreColumns (parts_of k encoded) len → length encoded ≤ at → column_of (rows_of_part encoded k from len) at ≡ replicate (len - from) Null
nulls_of_part encoded k from len at are past =
    let parts = parts_of k encoded in
    sym (drop-map (λ row. column row at) from (rows_of_columns parts len))
    ∙ ap (drop from) (nulls_past parts len at are (omega (arith, past, length-map encoded (λ column. part_of k (encoded_values column)))))
    ∙ drop-replicate from len Null

-- a row of the parts is the row that stands behind those of the parts before
row_of_parts : (encoded : List AnyEncoded) (k place : ℕ) → place < 1024 → row_at (parts_of k encoded) place ≡ row_at (columns_in encoded) (1024 * k + place)
row_of_parts [] k place lt = refl
row_of_parts (one ∷ encoded) k place lt = ap₂ (λ v row. v ∷ row) (part_read k place (encoded_values one) lt) (row_of_parts encoded k place lt)

module _ (encoded : List AnyEncoded) (len k count : ℕ) (long : AreLong len (columns_in encoded)) (is : count ≡ min (len - 1024 * k) 1024) where
  parts_long : AreLong count (parts_of k encoded)
  parts_long =
      let columns = columns_in encoded in
      subst (AreLong count) (map-map (part_of k) encoded_values encoded)
      (λ at d lt. let inside : at < length columns = omega (arith, lt, length-map columns (part_of k)) in
      omega (arith, is, ap length (get_or-map (part_of k) columns at [] d inside), length-part k (get_or columns at []), long at [] inside))

  -- the parts are columns of the rows that are left, 1,024 at most
  pub parts_are : 1024 * k < len → AreColumns (parts_of k encoded) count
  parts_are lt = record { some = omega (arith, is, lt); few = omega (arith, is); long = parts_long }

  -- and have those rows
  pub rows_of_parts : rows_of_columns (parts_of k encoded) count ≡ take 1024 (drop (1024 * k) (encoded_rows encoded len))
  rows_of_parts =
      let rows = encoded_rows encoded len in
      let parts = parts_of k encoded in
      let all = length-rows parts count in
      let left = length-take 1024 (drop (1024 * k) rows) ∙ ap (min 1024) (length-drop (1024 * k) rows) in
      ext_get_or [] (rows_of_columns parts count) (take 1024 (drop (1024 * k) rows)) (omega (arith, all, left, is, length-rows (columns_in encoded) len))
      (λ place below. let lt : place < count = omega (arith, below, all) in
      row_there parts count place [] lt ∙ row_of_parts encoded k place (omega (arith, lt, is))
      ∙ sym (get_or-take 1024 (drop (1024 * k) rows) place [] (omega (arith, lt, is)) ∙ get_or-drop (1024 * k) rows place []
      ∙ row_there (columns_in encoded) len (1024 * k + place) [] (omega (arith, lt, is))))

-- ---- all rows

module _ (encoded : List AnyEncoded) (rows : List Row) (width len : ℕ) (same : columns_in encoded ≡ columns_of rows width) (count : len ≡ length rows) where
  -- encoded columns of rows have those rows
  pub decoded : AreWide width rows → encoded_rows encoded len ≡ rows
  decoded wide = ap₂ rows_of_columns same count ∙ rebuilt rows width wide

  pub encoded_long : AreLong len (columns_in encoded)
  encoded_long = subst (AreLong len) (sym same) (subst (λ n. AreLong n (columns_of rows width)) (sym count) (columns_long rows width))

-- ---- columns of few rows

module _ (encoded : List AnyEncoded) (len : ℕ) (are : AreColumns (columns_in encoded) len) where
  -- they are one part
  pub few_are : AreColumns (parts_of 0 encoded) len
  few_are = parts_are encoded len 0 len are.long (omega (arith, are.few)) (omega (arith, are.some))

  pub few_rows : rows_of_columns (parts_of 0 encoded) len ≡ encoded_rows encoded len
  few_rows =
      rows_of_parts encoded len 0 len are.long (omega (arith, are.few))
      ∙ take_all 1024 (encoded_rows encoded len) (omega (arith, are.few, length-rows (columns_in encoded) len))
