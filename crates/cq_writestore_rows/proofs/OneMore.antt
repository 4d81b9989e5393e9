-- Columns with one value more in one of them.
use Rattle.std.proofs.Common.{◌≡◌, ◌≢◌, ◌∙◌, ℕ, zero, suc, ◌+◌, ◌<◌, ◌⊎◌, inl, inr, true, false, List, [], ◌∷◌, ◌++◌, length, length-append, get_or, take, refl, sym, ap, arith}
use Rattle.std.specs.Prelude.{slice_set}
use Rattle.std.proofs.Math.Dec.{eqb}
use Rattle.std.proofs.Math.Seq.{get_or-append_seam}
use Rattle.std.proofs.lemmas.Bool.Decides.{eqb_tells}
use Rattle.std.proofs.lemmas.Grind.{get_or-set_at}
use Rattle.std.proofs.lemmas.List.{ext_get_or, get_or-set_other, get_or_append_left, length-set}
use Rattle.cq_values.specs.Value.{column}
use Rattle.cq_values.specs.declared.value.Value.{Value}
use Rattle.cq_values.specs.declared.value.Value.TheVariants.{Null}
use Rattle.cq_vectors.specs.Batch.{row_at}
use Rattle.cq_segments_pieces.specs.Columns.{rows_of_columns}
use Rattle.cq_segments_pieces.proofs.Transposed.{length-rows, row_there}
use Rattle.cq_writestore_rows.specs.Filling.{AreBegun}

-- a column with a value more
abbrev longer : List (List Value) → ℕ → Value → List (List Value)
longer columns at value = slice_set columns at (get_or columns at [] ++ value ∷ [])

-- the rows that had ended stay
row_kept : (columns : List (List Value)) (at place : ℕ) (value : Value) → place < length (get_or columns at []) → row_at (longer columns at value) place ≡ row_at columns place
row_kept [] at place value lt = refl
row_kept (c ∷ cs) zero place value lt = ap (λ v. v ∷ row_at cs place) (get_or_append_left c (value ∷ []) Null place lt)
row_kept (c ∷ cs) (suc at) place value lt = ap (λ r. column c place ∷ r) (row_kept cs at place value lt)

-- and the row that is begun has the value
row_more : (columns : List (List Value)) (at place : ℕ) (value : Value) → at < length columns → length (get_or columns at []) ≡ place → row_at (take (suc at) (longer columns at value)) place ≡ row_at (take at columns) place ++ value ∷ []
row_more [] at place value lt long = absurd (omega (arith, lt))
row_more (c ∷ cs) zero place value lt long = ap (λ v. v ∷ []) (ap (λ (n : ℕ). get_or (c ++ value ∷ []) n Null) (sym long) ∙ get_or-append_seam c value [] Null)
row_more (c ∷ cs) (suc at) place value lt long = ap (λ r. column c place ∷ r) (row_more cs at place value (omega (arith, lt)) long)

module _ (columns : List (List Value)) (begun len : ℕ) (are : AreBegun columns begun len) (lt : begun < length columns) (value : Value) where
  abbrev pub next : List (List Value)
  next = longer columns begun value

  here : length (get_or columns begun []) ≡ len
  here = are.behind begun (omega arith) lt

  pub rows_kept : rows_of_columns next len ≡ rows_of_columns columns len
  rows_kept =
      ext_get_or [] (rows_of_columns next len) (rows_of_columns columns len) (length-rows next len ∙ sym (length-rows columns len))
      (λ k below. let inside : k < len = omega (arith, below, length-rows next len) in
      row_there next len k [] inside ∙ row_kept columns begun k value (omega (arith, inside, here)) ∙ sym (row_there columns len k [] inside))

  pub begun_more : row_at (take (begun + 1) next) len ≡ row_at (take begun columns) len ++ value ∷ []
  begun_more = ap (λ (n : ℕ). row_at (take n next) len) {x = begun + 1} {y = suc begun} (omega arith) ∙ row_more columns begun len value lt here

  longer_at : length (get_or next begun []) ≡ len + 1
  longer_at =
      ap length (get_or-set_at columns begun begun (get_or columns begun [] ++ value ∷ []) [] refl lt)
      ∙ length-append (get_or columns begun []) (value ∷ []) ∙ ap (λ (n : ℕ). n + 1) here

  other : (k : ℕ) → k ≢ begun → length (get_or next k []) ≡ length (get_or columns k [])
  other k apart = ap length (get_or-set_other columns begun k (get_or columns begun [] ++ value ∷ []) [] apart)

  before : (k : ℕ) → k < begun + 1 → ((eqb k begun ≡ true) × (k ≡ begun)) ⊎ ((eqb k begun ≡ false) × (k ≢ begun)) → length (get_or next k []) ≡ len + 1
  before k less (inl same) = ap (λ (n : ℕ). length (get_or next n [])) same.1 ∙ longer_at
  before k less (inr apart) = other k apart.1 ∙ are.before k (grind (arith, less, apart.1))

  pub are_begun : AreBegun next (begun + 1) len
  are_begun = record {
    within = omega (arith, lt, length-set columns begun (get_or columns begun [] ++ value ∷ []));
    before = λ k less. before k less (eqb_tells k begun);
    behind = λ k from to. other k (λ e. omega (arith, from, e)) ∙ are.behind k (omega (arith, from)) (omega (arith, to, length-set columns begun (get_or columns begun [] ++ value ∷ [])));
  }
