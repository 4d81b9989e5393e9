-- Rows that come value by value, after a value and after the end of a row.
use Rattle.std.proofs.Common.{◌≡◌, ◌∙◌, ℕ, ◌+◌, ◌<◌, ◌^◌, List, [], ◌∷◌, ◌++◌, append_assoc, length, length-append, get_or, replicate, take, subst, sym, ap, ap₂, arith}
use Rattle.std.specs.Prelude.{slice_set}
use Rattle.std.proofs.Math.Seq.{map-set_same}
use Rattle.std.proofs.lemmas.List.{append-nil, get_or-map, length-replicate, length-set, map-set}
use Rattle.cq_values.specs.Value.{Row}
use Rattle.cq_values.specs.declared.value.Value.{Value}
use Rattle.cq_vectors.specs.Batch.{row_at}
use Rattle.cq_segments_pieces.specs.Columns.{AreColumns, rows_of_columns}
use Rattle.cq_segments_pieces.specs.Marked.{MarkedRow, rows_of, unmarked}
use Rattle.cq_segments_pieces.specs.Pieces.{joined}
use Rattle.cq_segments_pieces.proofs.Marks.{length-rows_of}
use Rattle.cq_segments_pieces.proofs.Transposed.{length-rows}
use Rattle.cq_writestore_rows.specs.Filling.{Filled, IsFilling, IsWhole, with_row, with_rows, with_value}
use Rattle.cq_writestore_rows.specs.NewRows.{AreFresh}
use Rattle.cq_writestore_rows.specs.TypedColumn.{column_values, values_in}
use Rattle.cq_writestore_rows.specs.declared.typed_column.TypedColumn.{TypedColumn}
use Rattle.cq_writestore_rows.proofs.Ended.{begun_length, ended, filling-length, full_columns, none_begun, rows_ended}
use Rattle.cq_writestore_rows.proofs.Filled.{fresh_more, rows_more}
use Rattle.cq_writestore_rows.proofs.OneMore.{are_begun, begun_more, rows_kept}

-- a column that has a value more, and one that has the same
module _ (columns : List TypedColumn) (at : ℕ) (old new : TypedColumn) (lt : at < length columns) (is : get_or columns at old ≡ old) where
  pub values_stay : column_values new ≡ column_values old → values_in (slice_set columns at new) ≡ values_in columns
  values_stay same = map-set_same column_values columns at new old (same ∙ ap column_values (sym is))

  here : get_or (values_in columns) at [] ≡ column_values old
  here = get_or-map column_values columns at old [] lt ∙ ap column_values is

  pub values_more : (value : Value) → column_values new ≡ column_values old ++ value ∷ [] → values_in (slice_set columns at new) ≡ slice_set (values_in columns) at (get_or (values_in columns) at [] ++ value ∷ [])
  values_more value more = map-set column_values columns at new ∙ ap (λ (l : List Value). slice_set (values_in columns) at l) (more ∙ ap (λ (l : List Value). l ++ value ∷ []) (sym here))

-- where no column is left
pub all_done : (done all : List (List Value)) (left : List TypedColumn) → done ++ values_in left ≡ all → length left ≡ 0 → done ≡ all
all_done done all [] are none = sym (append-nil done) ∙ are
all_done done all (column ∷ left) are none = absurd (omega (arith, none))

-- what they are
abbrev pub filled_of : List (List MarkedRow) → ℕ → List (List Value) → ℕ → ℕ → Filled
filled_of pieces width columns begun len = record { rows = rows_of (joined pieces) ++ rows_of_columns columns len; begun = row_at (take begun columns) len; width = width }

-- whole pieces, and columns without values
empty_filling : (pieces : List (List MarkedRow)) (width : ℕ) → AreFresh pieces [] → (none : List (List Value)) → none ≡ replicate width [] → IsFilling pieces width none 0 0
empty_filling pieces width are none empty = subst (λ (l : List (List Value)). IsFilling pieces width l 0 0) (sym empty) (record {
  whole = are.whole;
  fresh = are.fresh;
  small = are.small;
  wide = length-replicate {A = List Value} width [];
  few = omega arith;
  are = none_begun width;
})

module _ (pieces : List (List MarkedRow)) (width : ℕ) (columns : List (List Value)) (begun len : ℕ) (is : IsFilling pieces width columns begun len) (now : Filled) (view : filled_of pieces width columns begun len ≡ now) where
  -- how many values the row that is begun has, and how many it is to have
  many : length now.begun ≡ begun
  many = ap (λ (f : Filled). length f.begun) (sym view) ∙ begun_length columns begun len is.are

  wide : now.width ≡ length columns
  wide = ap (λ (f : Filled). f.width) (sym view) ∙ sym is.wide

  pub has_column : length now.begun < now.width → begun < length columns
  has_column short = omega (arith, short, many, wide)

  module _ (short : length now.begun < now.width) (value : Value) (more : List (List Value)) (made : more ≡ slice_set columns begun (get_or columns begun [] ++ value ∷ [])) where
    pub filling_more : IsFilling pieces width more (begun + 1) len
    filling_more = subst (λ (l : List (List Value)). IsFilling pieces width l (begun + 1) len) (sym made) (record {
      whole = is.whole;
      fresh = is.fresh;
      small = is.small;
      wide = length-set columns begun (get_or columns begun [] ++ value ∷ []) ∙ is.wide;
      few = is.few;
      are = are_begun columns begun len is.are (has_column short) value;
    })

    abbrev filled : List Row → Row → Filled
    filled rs b = record { rows = rows_of (joined pieces) ++ rs; begun = b; width = width }

    pub filled_more : filled_of pieces width more (begun + 1) len ≡ with_value value now
    filled_more =
        ap (λ (l : List (List Value)). filled_of pieces width l (begun + 1) len) made
        ∙ ap₂ (λ (rs : List Row) (b : Row). filled rs b) (rows_kept columns begun len is.are (has_column short) value) (begun_more columns begun len is.are (has_column short) value)
        ∙ ap (λ (f : Filled). with_value value f) view

  -- rows that fill pieces have none behind them
  module _ (ready : IsWhole now) where
    none_behind : len ≡ 0
    none_behind = omega (arith, ready.count, ap (λ (f : Filled). length f.rows) view, filling-length pieces width columns begun len is, is.few)

    -- and a piece of rows more
    module _ (rows : List Row) (many_more : length rows ≡ 1024) (counted : length now.rows + 1024 < 2 ^ 63) (piece : List MarkedRow) (made : piece ≡ unmarked rows) (later : List (List MarkedRow)) (put : later ≡ pieces ++ piece ∷ []) where
      fresh_rows : AreFresh pieces rows
      fresh_rows = record {
        whole = is.whole;
        fresh = is.fresh;
        small = omega (arith, counted, many_more, none_behind, ap (λ (f : Filled). length f.rows) view, length-append (rows_of (joined pieces)) (rows_of_columns columns len), length-rows_of (joined pieces), length-rows columns len);
      }

      later_fresh : AreFresh later []
      later_fresh = subst (λ (l : List (List MarkedRow)). AreFresh l []) (sym put) (fresh_more pieces rows fresh_rows many_more piece made)

      pub filling_joined : IsFilling later width columns begun len
      filling_joined = record {
        whole = later_fresh.whole;
        fresh = later_fresh.fresh;
        small = omega (arith, later_fresh.small, none_behind);
        wide = is.wide;
        few = is.few;
        are = is.are;
      }

      joined_more : rows_of (joined (pieces ++ piece ∷ [])) ++ rows_of_columns columns len ≡ (rows_of (joined pieces) ++ rows_of_columns columns len) ++ rows
      joined_more =
          ap (λ (n : ℕ). rows_of (joined (pieces ++ piece ∷ [])) ++ rows_of_columns columns n) none_behind
          ∙ rows_more pieces rows fresh_rows many_more piece made
          ∙ ap (λ (rs : List Row). rs ++ rows) (sym (append-nil (rows_of (joined pieces))))
          ∙ ap (λ (n : ℕ). (rows_of (joined pieces) ++ rows_of_columns columns n) ++ rows) (sym none_behind)

      abbrev of_rows : List Row → Filled
      of_rows rs = record { rows = rs; begun = row_at (take begun columns) len; width = width }

      pub filled_joined : filled_of later width columns begun len ≡ with_rows rows now
      filled_joined = ap (λ (ps : List (List MarkedRow)). filled_of ps width columns begun len) put ∙ ap of_rows joined_more ∙ ap (λ (f : Filled). with_rows rows f) view

  module _ (whole : length now.begun ≡ now.width) (counted : length now.rows + 1 < 2 ^ 63) where
    all : begun ≡ length columns
    all = sym many ∙ whole ∙ wide

    one_more : length (joined pieces) + (len + 1) < 2 ^ 63
    one_more = omega (arith, counted, ap (λ (f : Filled). length f.rows) view, length-append (rows_of (joined pieces)) (rows_of_columns columns len), length-rows_of (joined pieces), length-rows columns len)

    with_last : rows_of (joined pieces) ++ rows_of_columns columns (len + 1) ≡ (rows_of (joined pieces) ++ rows_of_columns columns len) ++ row_at (take begun columns) len ∷ []
    with_last = ap (λ (l : List Row). rows_of (joined pieces) ++ l) (rows_ended columns begun len is.are all) ∙ sym (append_assoc (rows_of (joined pieces)) (rows_of_columns columns len) (row_at (take begun columns) len ∷ []))

    abbrev ready : List Row → Filled
    ready rs = record { rows = rs; begun = []; width = width }

    pub filling_ended : len < 1023 → IsFilling pieces width columns 0 (len + 1)
    filling_ended few = record {
      whole = is.whole;
      fresh = is.fresh;
      small = one_more;
      wide = is.wide;
      few = omega (arith, few);
      are = ended columns begun len is.are all;
    }

    pub filled_ended : filled_of pieces width columns 0 (len + 1) ≡ with_row now
    filled_ended = ap ready with_last ∙ ap (λ (f : Filled). with_row f) view

    -- where the columns are full they become a piece
    module _ (full : len ≡ 1023) where
      pub filling_full : AreColumns columns 1024
      filling_full = full_columns columns begun len is.are all full

      fresh : AreFresh pieces (rows_of_columns columns 1024)
      fresh = record { whole = is.whole; fresh = is.fresh; small = omega (arith, one_more, full, length-rows columns 1024) }

      module _ (piece : List MarkedRow) (made : piece ≡ unmarked (rows_of_columns columns 1024)) (later : List (List MarkedRow)) (put : later ≡ pieces ++ piece ∷ []) (none : List (List Value)) (empty : none ≡ replicate width []) where
        more : AreFresh (pieces ++ piece ∷ []) []
        more = fresh_more pieces (rows_of_columns columns 1024) fresh (length-rows columns 1024) piece made

        pub filling_emptied : IsFilling later width none 0 0
        filling_emptied = let are = subst (λ (l : List (List MarkedRow)). AreFresh l []) (sym put) more in empty_filling later width are none empty

        pub filled_emptied : filled_of later width none 0 0 ≡ with_row now
        filled_emptied =
            ap₂ (λ (ps : List (List MarkedRow)) (cs : List (List Value)). filled_of ps width cs 0 0) put empty
            ∙ ap ready (rows_more pieces (rows_of_columns columns 1024) fresh (length-rows columns 1024) piece made
            ∙ ap (λ (n : ℕ). rows_of (joined pieces) ++ rows_of_columns columns n) {x = 1024} {y = len + 1} (omega (arith, full))
            ∙ with_last)
            ∙ ap (λ (f : Filled). with_row f) view

-- after an error the columns may be empty
pub filling_lost : (pieces : List (List MarkedRow)) (width : ℕ) (columns : List (List Value)) (begun len : ℕ) → IsFilling pieces width columns begun len
    → (later : List (List MarkedRow)) → later ≡ pieces → (none : List (List Value)) → none ≡ replicate width [] → IsFilling later width none 0 0
filling_lost pieces width columns begun len is later same none empty =
    let few : length (joined pieces) + 0 < 2 ^ 63 = omega (arith, is.small) in
    let are : AreFresh pieces [] = record { whole = is.whole; fresh = is.fresh; small = few } in
    empty_filling later width (subst (λ (l : List (List MarkedRow)). AreFresh l []) (sym same) are) none empty
