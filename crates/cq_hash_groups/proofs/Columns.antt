-- The keys of rows are those of their columns.
use Rattle.std.proofs.Common.{◌≡◌, ℕ, ◌<◌, List, [], ◌∷◌, map, length, get_or, replicate, refl, sym, ◌∙◌, ap, ap₂, arith}
use Rattle.std.specs.List.{AllByRecursion, range_with_len}
use Rattle.std.proofs.lemmas.List.{ext_get_or, length-map}
use Rattle.std.proofs.lemmas.List as lists
use Rattle.std.proofs.lemmas.List.FromFn.{get_or-map-range_with_len, length-map-range_with_len}
use Rattle.std.proofs.Math.ListN.{get_or-map}
use Rattle.cq_values.specs.declared.value.Value.{Value}
use Rattle.cq_values.specs.Value.{Row, column}
use Rattle.cq_vectors.specs.Batch.{row_at}
use Rattle.cq_vectors.specs.Gathered.{column_of}
use Rattle.cq_hash_keys.specs.Keys.{HasLength, key_rows}
use Rattle.cq_model.specs.Group.{key_of}

module _ (rows : List Row) where
  -- a row of the columns is the key of the row
  row-at : (columns : List ℕ) (place : ℕ) → row_at (map (column_of rows) columns) place ≡ key_of columns (get_or rows place [])
  row-at [] place = refl
  row-at (c ∷ columns) place = ap₂ (λ (v : Value) (vs : List Value). v ∷ vs) (get_or-map (λ (r : Row). column r c) rows place []) (row-at columns place)

  -- the keys at the places of the columns are those of the rows
  pub keys-of_rows : (columns : List ℕ) → key_rows (length rows) (map (column_of rows) columns) ≡ map (key_of columns) rows
  keys-of_rows columns =
      let n = length rows in
      let f : ℕ → Row = row_at (map (column_of rows) columns) in
      let long : length (map f (range_with_len 0 n)) ≡ n = length-map-range_with_len f 0 n in
      ext_get_or [] (map f (range_with_len 0 n)) (map (key_of columns) rows) (long ∙ sym (length-map rows (key_of columns)))
      (λ i lt. let h : i < n = omega (arith, lt, long) in
      get_or-map-range_with_len f 0 n i i [] h (omega arith) ∙ row-at columns i ∙ sym (lists.get_or-map (key_of columns) rows i [] [] h))

  pub columns-long : (columns : List ℕ) → AllByRecursion (HasLength (length rows)) (map (column_of rows) columns)
  columns-long [] = tt
  columns-long (c ∷ columns) = (length-map rows (λ r. column r c), columns-long columns)

-- a value for each row
pub each-same : (v : Value) (rows : List Row) → replicate (length rows) v ≡ map (λ r. v) rows
each-same v [] = refl
each-same v (r ∷ rows) = ap (λ (vs : List Value). v ∷ vs) (each-same v rows)
