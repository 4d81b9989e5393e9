-- Columns in which a row ends.
use Rattle.std.proofs.Common.{◌≡◌, ◌∙◌, ℕ, ◌+◌, ◌*◌, ◌<◌, ◌≤◌, ◌^◌, ◌⊎◌, inl, inr, List, [], ◌∷◌, ◌++◌, length, length-append, get_or, replicate, take, sym, ap, arith}
use Rattle.std.proofs.lemmas.Bool.{cases_lt}
use Rattle.std.proofs.lemmas.List.{get_or-replicate, get_or_default, length-map, length-replicate, length-take-le, take_all}
use Rattle.std.proofs.lemmas.List.FromFn.{map-range_with_len_more}
use Rattle.cq_values.specs.Value.{column}
use Rattle.cq_values.specs.declared.value.Value.{Value}
use Rattle.cq_vectors.specs.Batch.{row_at}
use Rattle.cq_segments_pieces.specs.Columns.{AreColumns, rows_of_columns}
use Rattle.cq_segments_pieces.specs.Marked.{MarkedRow, rows_of}
use Rattle.cq_segments_pieces.specs.Pieces.{joined}
use Rattle.cq_segments_pieces.proofs.Marks.{length-rows_of}
use Rattle.cq_segments_pieces.proofs.Transposed.{length-rows}
use Rattle.cq_writestore_rows.specs.Filling.{AreBegun, AreOpen, IsFilling}
use Rattle.cq_writestore_rows.specs.NewRows.{AreFresh}
use Rattle.cq_writestore_rows.proofs.WholeLists.{whole-length}

module _ (columns : List (List Value)) (begun len : ℕ) (are : AreBegun columns begun len) where
  -- how many values the row that is begun has
  pub begun_length : length (row_at (take begun columns) len) ≡ begun
  begun_length = length-map (take begun columns) (λ values. column values len) ∙ length-take-le begun columns are.within

  -- each row that has ended is there
  pub are_open : AreOpen len columns
  are_open k lt = by_place (cases_lt k begun)
    where
      by_place : (k < begun) ⊎ (begun ≤ k) → len ≤ length (get_or columns k [])
      by_place (inl less) = omega (arith, are.before k less)
      by_place (inr past) = omega (arith, are.behind k past lt)

  module _ (all : begun ≡ length columns) where
    pub ended : AreBegun columns 0 (len + 1)
    ended = record {
      within = omega arith;
      before = λ k less. absurd (omega (arith, less));
      behind = λ k from to. are.before k (omega (arith, to, all));
    }

    pub rows_ended : rows_of_columns columns (len + 1) ≡ rows_of_columns columns len ++ row_at (take begun columns) len ∷ []
    rows_ended =
        map-range_with_len_more (row_at columns) 0 len len (omega arith)
        ∙ ap (λ l. rows_of_columns columns len ++ row_at l len ∷ []) (sym (take_all begun columns (omega (arith, all))))

    -- where they are 1,024 they are columns of that many rows
    pub full_columns : len ≡ 1023 → AreColumns columns 1024
    full_columns full = record {
      some = omega arith;
      few = omega arith;
      long = λ k d lt. ap length (get_or_default columns k d [] lt) ∙ are.before k (omega (arith, lt, all)) ∙ omega (arith, full);
    }

-- no column has values
pub none_begun : (width : ℕ) → AreBegun (replicate width []) 0 0
none_begun width = record {
  within = omega arith;
  before = λ k less. absurd (omega (arith, less));
  behind = λ k from to. ap length (get_or-replicate width k [] [] (omega (arith, to, length-replicate {A = List Value} width [])));
}

module _ (pieces : List (List MarkedRow)) (width : ℕ) (columns : List (List Value)) (begun len : ℕ) (is : IsFilling pieces width columns begun len) where
  -- how many rows there are
  pub filling-length : 1024 * length pieces + len ≡ length (rows_of (joined pieces) ++ rows_of_columns columns len)
  filling-length = omega (arith, length-append (rows_of (joined pieces)) (rows_of_columns columns len), length-rows_of (joined pieces), length-rows columns len, whole-length pieces is.whole)

  pub filling-small : 1024 * length pieces + len < 2 ^ 63
  filling-small = omega (arith, whole-length pieces is.whole, is.small)

  -- they can be handed over
  pub filling-fresh : AreFresh pieces (rows_of_columns columns len)
  filling-fresh = record { whole = is.whole; fresh = is.fresh; small = omega (arith, is.small, length-rows columns len) }
