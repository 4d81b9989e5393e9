-- The columns of the rows of a segment.
use Rattle.std.proofs.Common.{◌≡◌, ◌∙◌, ℕ, ◌<◌, ◌≤◌, List, [], ◌∷◌, get_or, length, replicate, refl, sym, ap, ap₂, arith, subst}
use Rattle.std.proofs.lemmas.List.{get_or-map, get_or_past, length-map}
use Rattle.std.proofs.lemmas.List.FromFn.{get_or-map-range_with_len, length-map-range_with_len}
use Rattle.cq_encodings.specs.AnyEncoded.{encoded_values}
use Rattle.cq_encodings.specs.declared.any_encoded.AnyEncoded.{AnyEncoded}
use Rattle.cq_encodings_vectors.specs.Places.{AreBelow, rows_at, values_at}
use Rattle.cq_values.specs.Value.{Row, column}
use Rattle.cq_values.specs.declared.value.Value.TheVariants.{Null}
use Rattle.cq_vectors.specs.Gathered.{column_of}
use Rattle.cq_segments_pieces.specs.Columns.{AreWide, columns_in, columns_of}
use Rattle.cq_segments_pieces.proofs.ValuesAt.{column-at, constant-at}

module _ (encoded : List AnyEncoded) (rows : List Row) (width : ℕ) (are : columns_in encoded ≡ columns_of rows width) where
  -- there are as many columns as a row is wide
  pub as_many : length encoded ≡ width
  as_many = omega (arith, length-map encoded encoded_values, ap length are, length-map-range_with_len (column_of rows) 0 width)

  -- a column has the values of the rows
  column-is : (at : ℕ) (one : AnyEncoded) → at < length encoded → one ≡ get_or encoded at one → encoded_values one ≡ column_of rows at
  column-is at one lt is =
      ap encoded_values is ∙ sym (get_or-map encoded_values encoded at one [] lt) ∙ ap (λ columns. get_or columns at []) are
      ∙ get_or-map-range_with_len (column_of rows) 0 width at at [] (omega (arith, lt, as_many)) (omega arith)

  module _ (at : ℕ) (one : AnyEncoded) (lt : at < length encoded) (is : one ≡ get_or encoded at one) (places : List ℕ) (below : AreBelow (length rows) places) where
    pub column-below : AreBelow (length (encoded_values one)) places
    column-below = subst (λ n. AreBelow n places) (sym (ap length (column-is at one lt is) ∙ length-map rows (λ row. column row at))) below

    -- also at some places
    pub column-read : values_at (encoded_values one) places ≡ column_of (rows_at rows places) at
    column-read = ap (λ values. values_at values places) (column-is at one lt is) ∙ column-at rows places at below

-- a column that no row has is NULL
nulls : (rows : List Row) (width at : ℕ) → AreWide width rows → width ≤ at → column_of rows at ≡ replicate (length rows) Null
nulls [] width at wide past = refl
nulls (row ∷ rows) width at wide past = ap₂ (λ v vs. v ∷ vs) (get_or_past row at Null (omega (arith, past, wide.0))) (nulls rows width at wide.1 past)

-- also at some places
pub nulls-at : (rows : List Row) (width at : ℕ) (places : List ℕ) → AreWide width rows → width ≤ at → AreBelow (length rows) places → replicate (length places) Null ≡ column_of (rows_at rows places) at
nulls-at rows width at places wide past below =
    let none = nulls rows width at wide past in
    let count = sym (length-map rows (λ row. column row at)) ∙ ap length none in
    constant-at Null (length rows) places (subst (λ n. AreBelow n places) count below)
    ∙ ap (λ values. values_at values places) (sym none) ∙ column-at rows places at below
